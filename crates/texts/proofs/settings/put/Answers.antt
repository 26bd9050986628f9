use Rattle.texts.proofs.Placing.{put_entry}
use Rattle.texts.proofs.settings.put.Goals as goal

pub returns-in-Ok-clause-ok : goal.returns-in-Ok-clause-ok
returns-in-Ok-clause-ok c = put_entry _ c.args.key.now c.args.value _ _ c.in_ok-key.ensures.ok c.in-Ok.ensures.entries
