use Rattle.std.proofs.Common.{◌≡◌, ◌++◌, drop, map}
use Rattle.rule_files.specs.RuleFile.{named_view}
use Rattle.rule_files.proofs.scope.put_named.Given as goal

abbrev pub invariant-loop-named : goal.invariant-loop-named
invariant-loop-named l = map (λ n. n.now) l.names.items ++ map (λ n. n.0) (map named_view (drop l.named-index l.more)) ≡ map (λ n. n.now) l.initial.names.items ++ map (λ n. n.0) (map named_view l.more)
