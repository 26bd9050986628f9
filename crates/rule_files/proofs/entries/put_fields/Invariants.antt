use Rattle.std.proofs.Common.{◌≡◌, drop, map, string_bytes}
use Rattle.rule_files.specs.RuleFile.{field_view, with_fields}
use Rattle.rule_files.proofs.entries.put_fields.Given as goal

abbrev pub invariant-fields : goal.invariant-fields
invariant-fields l = with_fields (map field_view l.fields.items) l.place (map string_bytes (drop l.name-index l.names)) ≡ with_fields (map field_view l.initial.fields.items) 1 (map string_bytes l.names)
