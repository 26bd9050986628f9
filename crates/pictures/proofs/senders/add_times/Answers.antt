use Rattle.std.proofs.Common.{ap, ◌∙◌, ◌++◌, ◌∷◌, []}
use Rattle.pictures.proofs.Sendings.{once_more}
use Rattle.pictures.proofs.senders.add_times.Goals as goal

pub loop-preserved : goal.loop-preserved
loop-preserved c = c.in_ok-push.ensures.items ∙ ap (λ r. r ++ c.args.time ∷ []) c.loop.invariant ∙ once_more c.args.row.now.items c.loop.counter c.args.time
