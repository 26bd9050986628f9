use Rattle.eventkey.specs.Message.{IsRanged}
use Rattle.process.proofs.ReportBytes.{every_more}
use Rattle.process.proofs.reports.messages_ranged.Goals as goal

pub loop-message-preserved : goal.loop-message-preserved
loop-message-preserved c = every_more IsRanged c.args.messages.now c.loop-message.message-index c.message-item.result c.loop-message-test.true c.message-item.is c.ranged.ensures c.loop-message.invariant
