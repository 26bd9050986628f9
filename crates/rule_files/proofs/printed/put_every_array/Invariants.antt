use Rattle.std.proofs.Common.{◌≡◌, drop, map}
use Rattle.std.specs.Prelude.{string_bytes}
use Rattle.rule_files.specs.Arrays.{array_view}
use Rattle.rule_files.specs.Printed.{each_array}
use Rattle.rule_files.proofs.printed.put_every_array.Given as goal

abbrev pub invariant-arrays : goal.invariant-arrays
invariant-arrays l = each_array (string_bytes l.text) (map array_view (drop l.array-index l.arrays)) ≡ each_array (string_bytes l.initial.text) (map array_view l.arrays)
