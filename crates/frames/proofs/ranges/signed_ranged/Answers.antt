use Rattle.eventkey.specs.Message.{IsRanged}
use Rattle.eventkey.specs.declared.Signed.{Signed}
use Rattle.node.proofs.Loads.{every_more}
use Rattle.frames.proofs.ranges.signed_ranged.Goals as goal

pub loop-signed-preserved : goal.loop-signed-preserved
loop-signed-preserved c =
    every_more (λ (s : Signed). IsRanged s.message) c.args.list.now c.loop-signed.signed-index c.signed-item.result c.loop-signed-test.true c.signed-item.is c.ranged.ensures c.loop-signed.invariant
