use Rattle.std.proofs.Common.{arith}
use Rattle.frames.proofs.Counts.{reply_fits}
use Rattle.frames.proofs.ranges.reply_ranged.Goals as goal

pub returns : goal.returns
returns c = reply_fits c.args.reply.now (rw c.as_slice.ensures at c.signed_ranged.ensures) c.ranged.ensures (omega arith)
