use Rattle.std.proofs.Common.{◌≡◌, drop, map}
use Rattle.rule_files.specs.RuleFile.{field_view, fields_of, sort_view, with_all_fields}
use Rattle.rule_files.proofs.entries.fields_of.Given as goal

abbrev pub invariant-sorts : goal.invariant-sorts
invariant-sorts l = with_all_fields (map field_view l.fields.items) (map sort_view (drop l.sort-index l.sorts)) ≡ fields_of (map sort_view l.sorts)
