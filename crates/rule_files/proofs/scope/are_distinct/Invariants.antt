use Rattle.std.proofs.Common.{◌≡◌, map, drop}
use Rattle.rule_files.specs.Names.{are_distinct}
use Rattle.rule_files.proofs.scope.are_distinct.Given as goal

abbrev pub invariant-loop-i : goal.invariant-loop-i
invariant-loop-i l = are_distinct (map (λ n. n.now) (drop l.i l.names)) ≡ are_distinct (map (λ n. n.now) l.names)
