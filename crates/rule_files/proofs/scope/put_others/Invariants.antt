use Rattle.std.proofs.Common.{◌≡◌, ◌++◌, drop, map}
use Rattle.rule_files.specs.RuleFile.{other_names}
use Rattle.rule_files.proofs.scope.put_others.Given as goal

abbrev pub invariant-others : goal.invariant-others
invariant-others l = map (λ n. n.now) l.names.items ++ drop l.i other_names ≡ map (λ n. n.now) l.initial.names.items ++ drop l.count other_names
