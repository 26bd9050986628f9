use Rattle.process.proofs.ReportBytes.{going_done, going_fail, going_on}
use Rattle.process.specs.Reports.{done_at}
use Rattle.process.proofs.encoding.skip_dones.Goals as goal

pub returns-in-None-clause-skips : goal.returns-in-None-clause-skips
returns-in-None-clause-skips c = going_fail done_at c.args.count c.args.bytes.now c.loop.counter c.loop.rest.now c.loop-test.true c.in-None.ensures c.loop.invariant

pub loop-preserved : goal.loop-preserved
loop-preserved c =
    going_on done_at c.args.count c.args.bytes.now c.loop.counter c.loop.rest.now c.in-Some.ensures.0 c.in-Some.after.now c.loop-test.true c.in-Some.ensures.1 c.loop.invariant

pub returns-clause-skips : goal.returns-clause-skips
returns-clause-skips c = going_done done_at c.args.count c.args.bytes.now c.loop.counter c.loop.rest.now c.loop-test.false c.loop.invariant
