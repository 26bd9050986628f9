use Rattle.std.proofs.Common.{◌≡◌, drop, map}
use Rattle.rule_files.specs.RuleFile.{field_view, is_field}
use Rattle.rule_files.proofs.entries.is_field.Given as goal

abbrev pub invariant-loop-field : goal.invariant-loop-field
invariant-loop-field l = is_field (map field_view (drop l.field-index l.fields)) l.name l.place ≡ is_field (map field_view l.fields) l.name l.place
