use Rattle.std.proofs.Common.{arith, Some, None, ◌==◌, ◌∙◌}
use Rattle.std.specs.List.{after_first, before_first}
use Rattle.std.proofs.lemmas.Str.Pattern.{split_once_first, strip_prefix_char}
use Rattle.cli.proofs.Readings.{no_range}
use Rattle.cli.proofs.values.range_of.Goals as goal

pub returns-in_err-last-clause-value : goal.returns-in_err-last-clause-value
returns-in_err-last-clause-value c =
    let text = c.args.text.now in
    let parts = split_once_first 46 text (Some (c.in_ok-first.first, c.in_ok-first.rest)) c.in_ok-first.ensures.cases (omega (arith)) in
    let strip = strip_prefix_char 46 c.in_ok-first.rest.now None c.in_err-last.ensures.cases (omega (arith)) in
    c.from_residual-in_err-last.ensures ∙ no_range (before_first (λ b. b == 46) text) (after_first (λ b. b == 46) text) (λ last e. strip last (parts.2 ∙ e))
