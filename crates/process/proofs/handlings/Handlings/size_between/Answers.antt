use Rattle.std.proofs.Common.{arith, ap, length}
use Rattle.process.proofs.HandlingBytes.{length-lengths_of, sum_small, sums}
use Rattle.process.proofs.handlings.Handlings.size_between.Goals as goal

pub sum_between-requires-clause-there : goal.sum_between-requires-clause-there
sum_between-requires-clause-there c = omega (arith, c.requires.there, ap length c.parts.ensures.lengths, length-lengths_of c.args.self.now)

pub sum_between-requires-clause-fits : goal.sum_between-requires-clause-fits
sum_between-requires-clause-fits c = omega (arith, sum_small c.args.self.now _ _ c.parts.ensures.lengths c.parts.ensures.bytes)

pub returns : goal.returns
returns c = sums c.args.self.now _ c.args.from c.args.to c.sum_between.result c.parts.ensures.lengths c.sum_between.ensures
