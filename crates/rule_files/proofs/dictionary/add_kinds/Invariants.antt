use Rattle.std.proofs.Common.{◌≡◌, ◌++◌, drop, map}
use Rattle.rule_files.specs.Reading.{kind_names}
use Rattle.rule_files.specs.RuleFile.{kind_view}
use Rattle.rule_files.proofs.dictionary.add_kinds.Given as goal

abbrev pub invariant-loop-kind : goal.invariant-loop-kind
invariant-loop-kind l = (l.names.draws ≡ l.initial.names.draws) × (l.names.own ≡ l.initial.names.own) × (l.names.entries ++ kind_names (map (λ k. kind_view k.head) (drop l.kind-index l.more)) ≡ l.initial.names.entries ++ kind_names (map (λ k. kind_view k.head) l.more))
