use Rattle.std.proofs.Common.{◌≡◌, ◌++◌, drop, map}
use Rattle.rule_files.specs.RuleFile.{kind_view}
use Rattle.rule_files.proofs.scope.put_kinds.Given as goal

abbrev pub invariant-loop-kind : goal.invariant-loop-kind
invariant-loop-kind l = map (λ n. n.now) l.names.items ++ map (λ k. k.name) (map (λ k. kind_view k.head) (drop l.kind-index l.more)) ≡ map (λ n. n.now) l.initial.names.items ++ map (λ k. k.name) (map (λ k. kind_view k.head) l.more)
