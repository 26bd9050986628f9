use Rattle.std.proofs.Common.{◌≡◌, ◌++◌, drop, map}
use Rattle.rule_files.specs.Arrays.{array_view, moved_arrays}
use Rattle.rule_files.proofs.arrays.moved_arrays.Given as goal

abbrev pub invariant-arrays : goal.invariant-arrays
invariant-arrays l = map array_view l.all.items ++ moved_arrays l.key (map array_view (drop l.one-index l.arrays)) ≡ moved_arrays l.key (map array_view l.arrays)
