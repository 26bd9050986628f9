use Rattle.std.proofs.Common.{◌≡◌, drop, map}
use Rattle.rule_files.specs.Arrays.{array_view}
use Rattle.rule_files.specs.Printed.{array_name}
use Rattle.rule_files.proofs.printed.array_name.Given as goal

abbrev pub invariant-arrays : goal.invariant-arrays
invariant-arrays l = array_name (map array_view (drop l.one-index l.arrays)) l.array ≡ array_name (map array_view l.arrays) l.array
