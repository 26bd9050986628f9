use Rattle.std.proofs.Common.{◌≡◌, ◌<◌, ◌∙◌, ap, arith, get_or, length, set, subst, sym}
use Rattle.std.proofs.lemmas.List.{get_or-set_same}
use Rattle.pictures.specs.Run.{sending_times}
use Rattle.pictures.specs.Senders.{IsFound}
use Rattle.pictures.proofs.OnTheWay.{found_ahead, number_inside, times_kept}
use Rattle.pictures.proofs.senders.keep_time.Goals as goal

pub returns-then-place-len-clause-kept : goal.returns-then-place-len-clause-kept
returns-then-place-len-clause-kept c = λ r are old have. record { senders = old; found = λ x h. h }

pub returns-then-place-len-clause-found : goal.returns-then-place-len-clause-found
returns-then-place-len-clause-found c = λ r are old have d l. absurd (omega arith)

pub returns-then-number-index-clause-kept : goal.returns-then-number-index-clause-kept
returns-then-number-index-clause-kept c = λ r are old have. record { senders = old; found = λ x h. h }

pub returns-then-number-index-clause-found : goal.returns-then-number-index-clause-found
returns-then-number-index-clause-found c = λ r are old have.
    let was = c.index.result.now in
    found_ahead r c.args.short.now.items c.args.message.now was (omega (arith, c.from-place.ensures)) (subst (λ k. was ≡ get_or c.args.short.now.items k was) c.from-place.ensures c.index.ensures) (omega (arith, c.number-number.ensures))

pub returns-clause-kept : goal.returns-clause-kept
returns-clause-kept c = λ r are old have.
    let short = c.args.short.now.items in
    let place = c.from-place.result in
    let times = sending_times r place in
    let early : c.number-number.result < length times = number_inside r short place c.number-number.result c.index.result.now old (omega arith) c.index.ensures (omega arith) in
    let time : c.sent_at.result ≡ get_or times c.number-number.result 0 =
    c.sent_at.ensures r are have ∙ ap (λ k. get_or (sending_times r c.args.message.now.from) k 0) (sym c.number-number.ensures) ∙ ap (λ p. get_or (sending_times r p) c.number-number.result 0) (sym c.from-place.ensures) in
    times_kept r short place c.index_mut.result.now c.keep.new.self old (omega arith) c.index_mut.ensures.value c.in_ok-keep.ensures.sender (λ other h. c.in_ok-keep.ensures.others times other early time h)

pub returns-clause-found : goal.returns-clause-found
returns-clause-found c = λ r are old have d l.
    let short = c.args.short.now.items in
    let place = c.from-place.result in
    let from = c.args.message.now.from in
    let times = sending_times r place in
    let new = c.keep.new.self in
    let early : c.number-number.result < length times = number_inside r short place c.number-number.result c.index.result.now old (omega arith) c.index.ensures (omega arith) in
    let time : c.sent_at.result ≡ get_or times c.number-number.result 0 =
    c.sent_at.ensures r are have ∙ ap (λ k. get_or (sending_times r from) k 0) (sym c.number-number.ensures) ∙ ap (λ p. get_or (sending_times r p) c.number-number.result 0) (sym c.from-place.ensures) in
    let here : IsFound times new c.number-number.result = c.in_ok-keep.ensures.here times early time in
    let at : get_or (set short place new) from d ≡ new = ap (λ j. get_or (set short place new) j d) (sym c.from-place.ensures) ∙ get_or-set_same short place new d (omega arith) in
    subst (λ t. IsFound (sending_times r from) t c.args.message.now.number) (sym at)
    (subst (λ n. IsFound (sending_times r from) new n) c.number-number.ensures (subst (λ p. IsFound (sending_times r p) new c.number-number.result) c.from-place.ensures here))
