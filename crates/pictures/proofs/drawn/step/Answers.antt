use Rattle.std.proofs.Common.{arith}
use Rattle.pictures.proofs.Frames.{steps_in_range}
use Rattle.pictures.proofs.drawn.step.Goals as goal

pub returns-clause-some : goal.returns-clause-some
returns-clause-some c = let r = steps_in_range c.span.result in omega (arith, r.0, c.first_round.ensures)

pub returns-clause-fits : goal.returns-clause-fits
returns-clause-fits c = let r = steps_in_range c.span.result in omega (arith, r.1, c.first_round.ensures)
