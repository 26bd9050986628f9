use Rattle.std.proofs.Common.{◌≡◌, ◌<◌, ◌∙◌, ap, arith, get_or, length, sym, true}
use Rattle.pictures.specs.Histograms.{is_between}
use Rattle.pictures.proofs.Binned.{filter_fits_at}
use Rattle.pictures.proofs.tallies.Tally.count_between.Goals as goal

pub overflow_add-count : goal.overflow_add-count
overflow_add-count c =
    let values = c.args.self.now.ranking.values.items in
    let i = c.loop-value.value-index in
    let e = c.as_slice-value-items.ensures.value in
    let here : i < length values = omega (arith, ap length e) in
    let chosen = sym c.is_between.ensures ∙ c.if-is_between.true in
    let there : is_between c.args.from c.args.to (get_or values i 0) ≡ true = ap (λ vs. is_between c.args.from c.args.to (get_or vs i 0)) (sym e) ∙ chosen in
    let fits = filter_fits_at (is_between c.args.from c.args.to) values i c.loop-value.count here there c.loop-value.invariant in
    omega (arith, fits)
