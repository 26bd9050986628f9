use Rattle.std.proofs.Common.{◌/◌, ◌∙◌, ap, get_or}
use Rattle.pictures.specs.Delays.{expanded}
use Rattle.pictures.proofs.Spreads.{spread_is}
use Rattle.pictures.proofs.delays.Delays.spread.Goals as goal

pub returns : goal.returns
returns c = λ values is.
    let all = expanded c.args.self.now.counts.entries in
    spread_is values c.args.self.now _ is c.delay_at.ensures (c.delay_at-2.ensures ∙ ap (λ n. get_or all (n / 2) 0) c.saturating_sub-last.ensures) (c.delay_at-3.ensures ∙ ap (λ n. get_or all n 0) c.saturating_sub-last.ensures)
