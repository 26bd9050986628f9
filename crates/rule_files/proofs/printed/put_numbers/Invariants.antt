use Rattle.std.proofs.Common.{◌≡◌, drop}
use Rattle.std.specs.Prelude.{string_bytes}
use Rattle.rule_files.specs.Printed.{with_numbers}
use Rattle.rule_files.proofs.printed.put_numbers.Given as goal

abbrev pub invariant-numbers : goal.invariant-numbers
invariant-numbers l = with_numbers (string_bytes l.text) (drop l.named-index l.numbers) ≡ with_numbers (string_bytes l.initial.text) l.numbers
