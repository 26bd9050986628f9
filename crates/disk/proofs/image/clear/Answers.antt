use Rattle.std.proofs.Common.{arith}
use Rattle.disk.proofs.Spans.{all_synced}
use Rattle.disk.proofs.image.clear.Goals as goal

pub returns-clause-in_sync : goal.returns-clause-in_sync
returns-clause-in_sync c = all_synced c.loop-n.n c.args.end _ (omega arith) c.loop-n.invariant.left
