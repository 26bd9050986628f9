use Rattle.std.proofs.Common.{◌≡◌, ◌++◌, drop, map}
use Rattle.rule_files.specs.Reading.{field_names}
use Rattle.rule_files.specs.RuleFile.{field_view}
use Rattle.rule_files.proofs.dictionary.add_fields.Given as goal

abbrev pub invariant-loop-field : goal.invariant-loop-field
invariant-loop-field l = (l.names.draws ≡ l.initial.names.draws) × (l.names.own ≡ l.initial.names.own) × (l.names.entries ++ field_names (map field_view (drop l.field-index l.more)) ≡ l.initial.names.entries ++ field_names (map field_view l.more))
