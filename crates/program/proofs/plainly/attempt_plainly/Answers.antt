use Rattle.program.proofs.Calls.{attempt_plain}
use Rattle.program.proofs.plainly.attempt_plainly.Goals as goal

pub returns : goal.returns
returns g c = let it = c.run_plain.ensures.run in attempt_plain _ _ _ _ _ _ _ it.run c.run_plain.result.outcome _ _ _ it.made it.printed
