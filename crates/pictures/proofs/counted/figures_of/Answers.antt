use Rattle.std.specs.List.{AllByRecursion as Every}
use Rattle.std.proofs.Common.{◌∙◌, ap, arith, get_or, length, min, subst, sym}
use Rattle.pictures.specs.Senders.{HaveTime}
use Rattle.pictures.proofs.Running.{counted_lps, counted_run, run_world}
use Rattle.pictures.proofs.counted.figures_of.Goals as goal

pub finish-requires-clause-few : goal.finish-requires-clause-few
finish-requires-clause-few g c =
    let m = g.M.Model.meaning c.args.model.now in
    let law = g.met.M.Model.lawful c.args.model.now in
    let lps = counted_lps m (min c.args.to c.args.end) c.in_ok-world.world.world c.in_ok-world.counts c.in_ok-world.events law c.in_ok-world.ensures.counted in
    omega (arith, lps.1, law.few_lps)

pub finish-requires-clause-numbers : goal.finish-requires-clause-numbers
finish-requires-clause-numbers g c =
    let m = g.M.Model.meaning c.args.model.now in
    let law = g.met.M.Model.lawful c.args.model.now in
    let is = c.in_ok-world.ensures.counted in
    let w = c.in_ok-world.world.world in
    let lps = counted_lps m (min c.args.to c.args.end) w c.in_ok-world.counts c.in_ok-world.events law is in
    ap length c.into_parts-numbers.ensures.numbers ∙ (run_world m (min c.args.to c.args.end) is.run w law (omega (arith, c.requires.end)) is.has).numbers ∙ sym lps.1

pub returns-clause-run : goal.returns-clause-run
returns-clause-run g c =
    let m = g.M.Model.meaning c.args.model.now in
    let (r, is, time, events, pending, counted, have, sent) = counted_run m c.args.end c.args.to c.in_ok-world.world.world c.in_ok-world.counts c.in_ok-world.events c.in_ok-world.ensures.counted c.in_ok-world.ensures.idle in
    let left = sym (c.as_slice.ensures.value ∙ c.into_parts-numbers.ensures.pending) in
    (r, is, c.in_ok-finish.ensures r (time ∙ sym c.min.ensures) events (pending ∙ left) counted (subst (Every (HaveTime r c.in_ok-world.counts.senders.items)) left have) (λ lp. ap (λ ns. get_or ns lp 0) c.into_parts-numbers.ensures.numbers ∙ sent lp))
