use Rattle.std.proofs.Common.{◌≡◌, drop, map}
use Rattle.std.specs.Prelude.{string_bytes}
use Rattle.rule_files.specs.Printed.{with_names}
use Rattle.rule_files.proofs.printed.put_names.Given as goal

abbrev pub invariant-names : goal.invariant-names
invariant-names l = with_names (string_bytes l.text) (map string_bytes (drop l.name-index l.names)) ≡ with_names (string_bytes l.initial.text) (map string_bytes l.names)
