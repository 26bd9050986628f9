use Rattle.std.proofs.Common.{arith, ◌≡◌, ◌<◌, length, get_or, take, ◌∙◌, ap, refl}
use Rattle.pictures.specs.Figures.{busy_of, handled_by, ranked, sent_by}
use Rattle.pictures.specs.declared.counted.Busy.{Busy}
use Rattle.pictures.proofs.Counts.{ranked_more, read_one}
use Rattle.pictures.proofs.counted.busiest_of.Goals as goal

pub loop-place-preserved : goal.loop-place-preserved
loop-place-preserved c = λ r handled sent.
    let n = length c.args.handled.now in
    let k = c.loop-place.place in
    let inside : k < n = omega arith in
    let events = read_one (handled_by r) c.args.handled.now n k handled inside in
    let sends = read_one (sent_by r) c.args.sent.now n k sent inside in
    let b : Busy = record { process = k; events = get_or c.args.handled.now k 0; sends = get_or c.args.sent.now k 0 } in
    let b_is : b ≡ busy_of r k = ap (λ e. let c' : Busy = record { process = k; events = e; sends = get_or c.args.sent.now k 0 } in c') events ∙ ap (λ s. let c' : Busy = record { process = k; events = handled_by r k; sends = s } in c') sends in
    ranked_more r k 10 b c.loop-place.busiest.items c.truncate.new.self.items b_is (c.loop-place.invariant r handled sent)
    (c.truncate.ensures.items ∙ ap (take 10) (c.in_ok-insert.ensures.items ∙ (rw c.as_slice.ensures.value at (c.place_of-behind.ensures.inserted b refl))))

pub returns : goal.returns
returns c = λ r handled sent.
    let all : c.loop-place.place ≡ length c.args.handled.now = omega arith in
    c.loop-place.invariant r handled sent ∙ ap (λ n. take 10 (ranked r n)) all
