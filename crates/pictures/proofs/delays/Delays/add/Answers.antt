use Rattle.std.proofs.Common.{◌+◌, ◌∙◌, ap, unwrap_or}
use Rattle.pictures.proofs.Spreads.{counted_more}
use Rattle.pictures.proofs.delays.Delays.add.Goals as goal

pub returns : goal.returns
returns c = λ values is.
    counted_more values c.args.self.now _ c.args.delay c.in_ok-count.count is
    (c.in_ok-count.ensures ∙ ap (λ n. n + 1) (c.unwrap_or.ensures ∙ ap (λ o. unwrap_or o 0) (c.copied.ensures ∙ c.get.ensures.value)))
    c.in_ok-insert.ensures.entries c.insert.ensures.ordered c.in_ok-total.ensures
