use Rattle.std.proofs.Common.{◌≤◌, ◌^◌, length}
use Rattle.node.proofs.Loads.{every_more}
use Rattle.node.specs.Handling.{IsInRange}
use Rattle.node.specs.declared.Part.{Part}
use Rattle.frames.specs.Bodies.{part_bytes}
use Rattle.frames.specs.Ranges.{IsPart}
use Rattle.frames.proofs.ranges.parts_ranged.Goals as goal

pub loop-part-preserved : goal.loop-part-preserved
loop-part-preserved c =
    every_more (λ (p : Part). IsInRange p → length (part_bytes p) ≤ 2 ^ 24 → IsPart p) c.args.parts.now c.loop-part.part-index c.part-item.result c.loop-part-test.true c.part-item.is c.part_ranged.ensures
    c.loop-part.invariant
