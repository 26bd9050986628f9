use Rattle.program.proofs.Calls.{attempt_of}
use Rattle.program.proofs.attempts.attempt_here.Goals as goal

pub returns : goal.returns
returns g c = let it = c.run.ensures.run in attempt_of _ _ _ _ _ c.args.plan _ _ it.run c.run.result.outcome _ _ _ it.made.over it.printed it.made.simulation
