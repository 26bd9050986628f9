use Rattle.std.proofs.Common.{◌∙◌, List, ap, arith, length, refl, subst, sym}
use Rattle.eventkey.specs.Bag.{copies}
use Rattle.eventkey.specs.Message.{Message}
use Rattle.model.proofs.Slots.{IsSlots-put, copies-put, length-put, lists-kept, lists-length, lists-put}
use Rattle.model.specs.Slots.{IsSlots, flat, lists}
use Rattle.model.proofs.ticks.put_in_slot.Goals as goal

pub returns-clause-slots : goal.returns-clause-slots
returns-clause-slots c = λ shift b put at old.
    subst (IsSlots shift b) (sym (lists-put c.widen.new.slots.items c.args.place c.index_mut.result.now c.push.new.self (c.if-not-widen.ensures.room refl) c.index_mut.ensures.value c.args.message c.in-Ok.ensures.items))
    (IsSlots-put shift b (lists c.widen.new.slots.items) c.args.place c.args.message (omega (arith, c.if-not-widen.ensures.room refl, lists-length c.widen.new.slots.items)) at (c.widen.ensures.slots shift b old))

pub returns-clause-copies : goal.returns-clause-copies
returns-clause-copies c = λ x put.
    omega (
      arith,
      ap (λ (ss : List (List Message)). copies x (flat ss)) (lists-put c.widen.new.slots.items c.args.place c.index_mut.result.now c.push.new.self (c.if-not-widen.ensures.room refl) c.index_mut.ensures.value c.args.message c.in-Ok.ensures.items),
      copies-put x (lists c.widen.new.slots.items) c.args.place c.args.message (omega (arith, c.if-not-widen.ensures.room refl, lists-length c.widen.new.slots.items)),
      ap (copies x) c.widen.ensures.flat,
    )

pub returns-clause-len : goal.returns-clause-len
returns-clause-len c = λ put.
    omega (
      arith,
      ap (λ (ss : List (List Message)). length (flat ss)) (lists-put c.widen.new.slots.items c.args.place c.index_mut.result.now c.push.new.self (c.if-not-widen.ensures.room refl) c.index_mut.ensures.value c.args.message c.in-Ok.ensures.items),
      length-put (lists c.widen.new.slots.items) c.args.place c.args.message (omega (arith, c.if-not-widen.ensures.room refl, lists-length c.widen.new.slots.items)),
      ap length c.widen.ensures.flat,
    )

pub returns-in_default-clause-unchanged : goal.returns-in_default-clause-unchanged
returns-in_default-clause-unchanged c = λ put.
    ap flat (lists-kept c.widen.new.slots.items c.args.place c.index_mut.result.now c.push.new.self (c.if-not-widen.ensures.room refl) c.index_mut.ensures.value c.in_default.ensures.items) ∙ c.widen.ensures.flat

pub returns-in_default-clause-kept : goal.returns-in_default-clause-kept
returns-in_default-clause-kept c = λ shift b put old.
    subst (IsSlots shift b) (sym (lists-kept c.widen.new.slots.items c.args.place c.index_mut.result.now c.push.new.self (c.if-not-widen.ensures.room refl) c.index_mut.ensures.value c.in_default.ensures.items)) (c.widen.ensures.slots shift b old)
