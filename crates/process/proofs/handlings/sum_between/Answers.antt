use Rattle.std.proofs.Common.{arith}
use Rattle.process.proofs.HandlingBytes.{sum_fits, sum_step}
use Rattle.process.proofs.handlings.sum_between.Goals as goal

pub overflow_add-found : goal.overflow_add-found
overflow_add-found c =
    let test = c.loop-at-test.true in
    omega (arith, c.requires.fits, sum_fits c.args.numbers.now.items c.args.from c.loop-at.at c.loop-at.found c.index.result.now (omega (arith, test, c.requires.there)) c.index.ensures c.loop-at.invariant)

pub loop-at-preserved : goal.loop-at-preserved
loop-at-preserved c =
    let test = c.loop-at-test.true in
    sum_step c.args.numbers.now.items c.args.from c.loop-at.at c.loop-at.found c.index.result.now (omega (arith, test, c.requires.there)) c.index.ensures c.loop-at.invariant
