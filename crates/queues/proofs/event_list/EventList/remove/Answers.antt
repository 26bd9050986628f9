use Rattle.std.proofs.Common.{◌≡◌, ◌∙◌, ap, arith, length, sym}
use Rattle.std.proofs.lemmas.Bool.{ltb-false}
use Rattle.eventkey.proofs.Bags.{remove_one_none}
use Rattle.eventkey.specs.Bag.{copies}
use Rattle.queues.proofs.Buckets.{length-remove_one}
use Rattle.queues.specs.Split.{both}
use Rattle.queues.proofs.event_list.EventList.remove.Goals as goal

pub invariant_of-self : goal.invariant_of-self
invariant_of-self c =
    let m = c.args.message.now in
    let old = both c.self.inside.near.items c.self.inside.far in
    let fewer = length-remove_one m old (sym c.take_out-was_there.ensures.answer ∙ c.if-was_there.true) in
    (c.take_out-was_there.ensures.split, omega (arith, ap length c.take_out-was_there.ensures.taken, fewer, c.self.invariant.1))

pub invariant_of-self-else-was_there : goal.invariant_of-self-else-was_there
invariant_of-self-else-was_there c =
    let m = c.args.message.now in
    let old = both c.self.inside.near.items c.self.inside.far in
    let none : copies m old ≡ 0 = (let l = ltb-false 0 (copies m old) (sym c.take_out-was_there.ensures.answer ∙ c.if-was_there.false) in omega arith) in
    (c.take_out-was_there.ensures.split, omega (arith, ap length (c.take_out-was_there.ensures.taken ∙ remove_one_none m old none), c.self.invariant.1))
