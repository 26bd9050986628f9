use Rattle.std.proofs.Common.{◌∙◌, ap, reverse, subst, sym}
use Rattle.eventkey.proofs.Lists.{IsAscending-left}
use Rattle.eventkey.specs.Bag.{IsAscending}
use Rattle.queues.proofs.Splits.{taken_far, taken_near}
use Rattle.queues.specs.Place.{IsAtPlace}
use Rattle.queues.specs.Split.{IsSplit, both}
use Rattle.queues.proofs.event_list.take_out.Goals as goal

pub find-requires : goal.find-requires
find-requires c = subst (λ xs. IsAscending (reverse xs)) (sym c.as_slice.ensures.value) (IsAscending-left (reverse c.args.near.now.items) c.args.far.now c.requires.ascending)

pub refill-requires-clause-ascending : goal.refill-requires-clause-ascending
refill-requires-clause-ascending c =
    let at : IsAtPlace c.args.message.now c.args.near.now.items c.in-Some.place = rw c.as_slice.ensures.value at c.in-Some.ensures in
    (taken_near c.args.message.now c.args.near.now.items c.args.far.now c.remove.new.self.items c.requires.ascending at.among (ap reverse c.remove.ensures.items ∙ at.without)).2

pub returns-in-Some-clause-answer : goal.returns-in-Some-clause-answer
returns-in-Some-clause-answer c =
    let at : IsAtPlace c.args.message.now c.args.near.now.items c.in-Some.place = rw c.as_slice.ensures.value at c.in-Some.ensures in
    sym (taken_near c.args.message.now c.args.near.now.items c.args.far.now c.remove.new.self.items c.requires.ascending at.among (ap reverse c.remove.ensures.items ∙ at.without)).0

pub returns-in-Some-clause-taken : goal.returns-in-Some-clause-taken
returns-in-Some-clause-taken c =
    let at : IsAtPlace c.args.message.now c.args.near.now.items c.in-Some.place = rw c.as_slice.ensures.value at c.in-Some.ensures in
    c.refill.ensures.same ∙ (taken_near c.args.message.now c.args.near.now.items c.args.far.now c.remove.new.self.items c.requires.ascending at.among (ap reverse c.remove.ensures.items ∙ at.without)).1

pub returns-in-None-clause-split : goal.returns-in-None-clause-split
returns-in-None-clause-split c =
    let gone = rw c.as_slice.ensures.value at c.in-None.ensures in
    subst (IsSplit c.args.near.now.items) (sym c.remove-in-None.ensures.removed) (taken_far c.args.message.now c.args.near.now.items c.args.far.now c.requires gone).2

pub returns-in-None-clause-answer : goal.returns-in-None-clause-answer
returns-in-None-clause-answer c =
    let gone = rw c.as_slice.ensures.value at c.in-None.ensures in
    c.remove-in-None.ensures.answer ∙ sym (taken_far c.args.message.now c.args.near.now.items c.args.far.now c.requires gone).0

pub returns-in-None-clause-taken : goal.returns-in-None-clause-taken
returns-in-None-clause-taken c =
    let gone = rw c.as_slice.ensures.value at c.in-None.ensures in
    ap (both c.args.near.now.items) c.remove-in-None.ensures.removed ∙ (taken_far c.args.message.now c.args.near.now.items c.args.far.now c.requires gone).1
