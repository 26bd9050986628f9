use Rattle.std.specs.List.{AllByRecursion as Every}
use Rattle.std.specs.Vec.{with_item}
use Rattle.std.proofs.Common.{◌≡◌, ◌+◌, ◌∙◌, ap, arith, get_or, length, refl, subst, sym}
use Rattle.eventkey.proofs.Lists.{Every-weaker}
use Rattle.model.proofs.Runs.{read_any}
use Rattle.pictures.specs.Run.{Run, sending_times, with_event}
use Rattle.pictures.specs.Senders.{AreSenders, HaveTime}
use Rattle.pictures.specs.declared.counted.Counts.{Counts}
use Rattle.pictures.proofs.Running.{counted_event, delays_go_on}
use Rattle.pictures.proofs.counted.Counts.add.Goals as goal

pub returns-clause-counted : goal.returns-clause-counted
returns-clause-counted c = λ r n pending is have count.
    let x = c.args.event.now in
    let old = c.args.self.now in
    let place = c.to-place.result in
    let next : Run = with_event r x n pending in
    let new : Counts = record { senders = c.add_sends.new.senders; handled = with_item old.handled place c.in_ok-self.field-0; delays = c.take_delay.new.delays; unsent = c.take_delay.new.unsent } in
    let sent : get_or c.args.numbers.now place 0 ≡ length (sending_times r x.to) + n = ap (λ k. get_or c.args.numbers.now k 0) c.to-place.ensures ∙ count in
    let times = c.in_ok-add_sends.ensures r n pending is.senders is.sends sent in
    let same = c.as_slice.ensures.value in
    let have_now = subst (λ ss. HaveTime next ss x) (sym same) (times.found x have) in
    let unsent = Every-weaker (HaveTime r old.senders.items) (HaveTime next new.senders.items) times.found old.unsent.items is.unsent in
    let taken = c.in_ok-take_delay.ensures in
    counted_event r x n pending old new place c.in_ok-self.field-0 is c.to-place.ensures (omega (arith, c.requires.senders, is.senders.long, c.to-place.ensures)) times
    (c.in_ok-self.ensures ∙ ap (λ k. k + 1) (read_any old.handled.items place c.index.result.now 0 (omega (arith, c.requires.handled, c.to-place.ensures)) c.index.ensures)) refl
    (taken.delays next r.events (subst (AreSenders next) (sym same) times.senders) have_now (delays_go_on r x n pending r.events old.delays old.unsent.items is.sends is.delays))
    (subst (λ ss. Every (HaveTime next ss) new.unsent.items) same (taken.unsent next have_now (subst (λ ss. Every (HaveTime next ss) old.unsent.items) (sym same) unsent)))

pub returns-clause-found : goal.returns-clause-found
returns-clause-found c = λ r n pending x is count have.
    let sent : get_or c.args.numbers.now c.to-place.result 0 ≡ length (sending_times r c.args.event.now.to) + n = ap (λ k. get_or c.args.numbers.now k 0) c.to-place.ensures ∙ count in
    (c.in_ok-add_sends.ensures r n pending is.senders is.sends sent).found x have
