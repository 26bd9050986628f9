use Rattle.std.proofs.Common.{◌∙◌, arith, sym}
use Rattle.queues.proofs.Releases.{drop_next}
use Rattle.queues.proofs.done.let_go.Goals as goal

pub loop-preserved : goal.loop-preserved
loop-preserved c =
    let popped = rw c.unwrap.ensures at c.pop_front.ensures.items in
    let long = rw c.unwrap.ensures at c.pop_front.ensures.len in
    record { left = drop_next c.args.done.now.items c.pop_front.new.self.items c.unwrap.result c.loop.counter (sym popped ∙ c.loop.invariant.left); long = omega arith }
