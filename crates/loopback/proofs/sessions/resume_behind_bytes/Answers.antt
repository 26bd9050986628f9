use Rattle.std.proofs.Common.{sym}
use Rattle.loopback.proofs.Faithfulness.{all_faithful}
use Rattle.loopback.proofs.sessions.resume_behind_bytes.Goals as goal

pub returns-in-Ok-clause-resources : goal.returns-in-Ok-clause-resources
returns-in-Ok-clause-resources g c = λ a recovers. rw (sym c.in-Ok.ensures) (c.resume.ensures.resources a recovers (all_faithful (g.M.Model.meaning c.args.model.now) c.args.nodes _ c.in-Ok.ensures))
