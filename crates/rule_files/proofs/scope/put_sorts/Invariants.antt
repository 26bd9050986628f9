use Rattle.std.proofs.Common.{◌≡◌, ◌++◌, drop, map}
use Rattle.rule_files.specs.RuleFile.{sort_view}
use Rattle.rule_files.proofs.scope.put_sorts.Given as goal

abbrev pub invariant-loop-sort : goal.invariant-loop-sort
invariant-loop-sort l = map (λ n. n.now) l.names.items ++ map (λ s. s.0) (map sort_view (drop l.sort-index l.more)) ≡ map (λ n. n.now) l.initial.names.items ++ map (λ s. s.0) (map sort_view l.more)
