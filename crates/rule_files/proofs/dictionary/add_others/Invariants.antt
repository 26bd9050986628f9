use Rattle.std.proofs.Common.{◌≡◌, ◌++◌, drop}
use Rattle.rule_files.specs.Reading.{content_from}
use Rattle.rule_files.specs.RuleFile.{other_names}
use Rattle.rule_files.proofs.dictionary.add_others.Given as goal

abbrev pub invariant-others : goal.invariant-others
invariant-others l = (l.names.draws ≡ l.initial.names.draws) × (l.names.own ≡ l.initial.names.own) × (l.names.entries ++ content_from l.place (drop l.place other_names) ≡ l.initial.names.entries ++ content_from l.count (drop l.count other_names))
