use Rattle.std.proofs.Common.{arith}
use Rattle.rules.proofs.Shifts.{shift_stays}
use Rattle.rules.proofs.distributions.depth.Goals as goal

pub returns-clause-depth : goal.returns-clause-depth
returns-clause-depth c = omega (arith, shift_stays c.args.v c.ranges.v.fits)
