use Rattle.std.proofs.Common.{◌≡◌, drop, map}
use Rattle.std.specs.Prelude.{string_bytes}
use Rattle.rule_files.specs.Printed.{with_tables}
use Rattle.rule_files.proofs.printed.put_tables.Given as goal

abbrev pub invariant-tables : goal.invariant-tables
invariant-tables l = with_tables l.place (map string_bytes l.names) (string_bytes l.text) (drop l.place l.tables) ≡ with_tables 0 (map string_bytes l.names) (string_bytes l.initial.text) l.tables
