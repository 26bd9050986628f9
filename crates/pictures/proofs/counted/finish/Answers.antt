use Rattle.std.specs.List.{AllByRecursion as Every}
use Rattle.std.proofs.Common.{◌≡◌, ◌*◌, ◌/◌, ◌%◌, ◌++◌, ◌∙◌, ap, arith, length, map, max, subst, sym, take}
use Rattle.model.specs.World.{below}
use Rattle.pictures.specs.Delays.{AreCounted}
use Rattle.pictures.specs.Figures.{IsSpread, delay_of, handled_by, ranked, sent_by}
use Rattle.pictures.specs.Senders.{AreSenders, HaveTime}
use Rattle.pictures.proofs.Counts.{one_for_each}
use Rattle.pictures.proofs.Running.{spread_of_all}
use Rattle.pictures.proofs.counted.finish.Goals as goal

pub returns : goal.returns
returns c = λ r time events pending counted have sent.
    let n = length r.first in
    let f = delay_of r in
    let unsent = c.args.counts.unsent.items in
    let handled : c.args.counts.handled.items ≡ map (handled_by r) (below n) = one_for_each (handled_by r) c.args.counts.handled.items n counted.long counted.handled in
    let numbers : c.args.numbers.items ≡ map (sent_by r) (below n) = one_for_each (sent_by r) c.args.numbers.items n (c.requires.numbers ∙ counted.long) (λ k l. sent k) in
    let first = c.as_slice.ensures.value in
    let others = c.as_slice-2.ensures.value in
    let again = c.as_slice-3.ensures.value in
    let long : length c.as_slice-4.result.now ≡ n = ap length c.as_slice-4.ensures.value ∙ counted.long in
    record {
      time = sym time;
      processes = omega (arith, c.len-processes.ensures, counted.long);
      events = events;
      pending = ap length (sym pending);
      handled = subst (λ xs. IsSpread xs c.spread_of.result) handled c.spread_of.ensures;
      sent = subst (λ xs. IsSpread xs c.spread_of-2.result) numbers c.spread_of-2.ensures;
      delay = spread_of_all r c.args.counts.delays c.add_delays-2.new.delays unsent c.spread.result counted.delays
          (λ delays is.
          let late = subst (Every (HaveTime r c.as_slice.result.now)) (sym others) (subst (λ ss. Every (HaveTime r ss) unsent) (sym first) counted.unsent) in
          let some = c.in_ok-add_delays.ensures r delays (subst (AreSenders r) (sym first) counted.senders) late is in
          let both = c.in_ok-add_delays-2.ensures r (delays ++ map f unsent) (subst (AreSenders r) (sym again) counted.senders) (subst (λ ss. Every (HaveTime r ss) c.args.pending.now) (sym again) have)
          (subst (λ xs. AreCounted (delays ++ map f xs) c.add_delays.new.delays) others some) in
          subst (λ xs. AreCounted ((delays ++ map f unsent) ++ map f xs) c.add_delays-2.new.delays) (sym pending) both)
          c.spread.ensures;
      whole = c.rate_of.ensures.whole ∙ ap (λ e. e / max 1 c.args.time) events ∙ ap (λ t. length r.events / max 1 t) (sym time);
      thousandths = c.rate_of.ensures.thousandths ∙ ap (λ e. 1000 * (e % max 1 c.args.time) / max 1 c.args.time) events ∙ ap (λ t. 1000 * (length r.events % max 1 t) / max 1 t) (sym time);
      busiest = c.from_vec.ensures
          ∙ c.in_ok-busiest.ensures r (c.as_slice-4.ensures.value ∙ handled ∙ ap (λ k. map (handled_by r) (below k)) (sym long)) (c.as_slice-5.ensures.value ∙ numbers ∙ ap (λ k. map (sent_by r) (below k)) (sym long))
          ∙ ap (λ k. take 10 (ranked r k)) long;
    }
