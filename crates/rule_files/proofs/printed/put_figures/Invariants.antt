use Rattle.std.proofs.Common.{◌≡◌, drop}
use Rattle.std.specs.Prelude.{string_bytes}
use Rattle.rule_files.specs.Printed.{with_figures}
use Rattle.rule_files.proofs.printed.put_figures.Given as goal

abbrev pub invariant-numbers : goal.invariant-numbers
invariant-numbers l = with_figures (string_bytes l.text) (drop l.number-index l.numbers) ≡ with_figures (string_bytes l.initial.text) l.numbers
