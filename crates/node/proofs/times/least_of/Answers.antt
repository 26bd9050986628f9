use Rattle.std.proofs.Common.{arith}
use Rattle.node.proofs.Bounds.{least_after, least_most}
use Rattle.node.proofs.times.least_of.Goals as goal

pub loop-time-init : goal.loop-time-init
loop-time-init c = record { most = omega arith; is = (let most = least_most c.args.times.now in omega arith) }

pub returns : goal.returns
returns c = least_after c.args.times.now c.loop-time.time-index c.loop-time.least (omega (arith, c.loop-time-test.false)) c.loop-time.invariant.most c.loop-time.invariant.is
