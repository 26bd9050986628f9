use Rattle.std.proofs.Common.{sym}
use Rattle.eventkey.specs.Encoding.{message_at}
use Rattle.process.proofs.ReportBytes.{going_done, going_fail, going_on}
use Rattle.process.proofs.encoding.skip_messages.Goals as goal

pub returns-in-None : goal.returns-in-None
returns-in-None c = going_fail message_at c.args.count c.args.bytes.now c.loop.counter c.loop.rest.now c.loop-test.true (sym c.in-None.ensures) c.loop.invariant

pub loop-preserved : goal.loop-preserved
loop-preserved c = going_on message_at c.args.count c.args.bytes.now c.loop.counter c.loop.rest.now c.in-Some.field-0-0 c.in-Some.after.now c.loop-test.true (sym c.in-Some.ensures) c.loop.invariant

pub returns : goal.returns
returns c = going_done message_at c.args.count c.args.bytes.now c.loop.counter c.loop.rest.now c.loop-test.false c.loop.invariant
