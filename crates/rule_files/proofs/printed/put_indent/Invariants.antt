use Rattle.std.proofs.Common.{◌≡◌}
use Rattle.std.specs.Prelude.{string_bytes}
use Rattle.rule_files.specs.Printed.{with_indent}
use Rattle.rule_files.proofs.printed.put_indent.Given as goal

abbrev pub invariant-spaces : goal.invariant-spaces
invariant-spaces l = string_bytes l.text ≡ with_indent l._turn (string_bytes l.initial.text)
