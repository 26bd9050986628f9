use Rattle.std.proofs.Common.{◌≡◌, drop}
use Rattle.std.specs.Prelude.{string_bytes}
use Rattle.rule_files.specs.Printed.{with_sorts}
use Rattle.rule_files.proofs.printed.put_sorts.Given as goal

abbrev pub invariant-sorts : goal.invariant-sorts
invariant-sorts l = with_sorts l.number (string_bytes l.text) (drop l.number l.sorts) ≡ with_sorts 0 (string_bytes l.initial.text) l.sorts
