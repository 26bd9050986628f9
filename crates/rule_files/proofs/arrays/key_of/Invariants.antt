use Rattle.std.proofs.Common.{◌≡◌, drop, map, string_bytes}
use Rattle.rule_files.specs.Arrays.{key_from}
use Rattle.rule_files.proofs.arrays.key_of.Given as goal

abbrev pub invariant-loop-place : goal.invariant-loop-place
invariant-loop-place l = key_from l.place (map string_bytes (drop l.place l.words)) ≡ key_from 0 (map string_bytes l.words)
