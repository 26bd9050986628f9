use Rattle.std.proofs.Common.{arith}
use Rattle.pictures.proofs.Rounds.{least_round-le}
use Rattle.pictures.proofs.courses.least_round.Goals as goal

pub loop-row-init : goal.loop-row-init
loop-row-init c = record {
  all = omega (arith, least_round-le c.args.rows.now);
  within = omega arith;
}
