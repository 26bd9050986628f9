use Rattle.std.proofs.Common.{ap, arith, length}
use Rattle.queues.proofs.Buckets.{length-add}
use Rattle.queues.specs.Split.{both}
use Rattle.queues.proofs.event_list.EventList.add.Goals as goal

pub invariant_of-self-2 : goal.invariant_of-self-2
invariant_of-self-2 c =
    let old = both c.self.inside.near.items c.self.inside.far in
    (c.put_in.ensures.split, omega (arith, ap length c.in_ok-put_in.ensures.added, length-add c.args.message old, c.self.invariant.1))
