use Rattle.std.proofs.Common.{◌≤◌, ◌^◌, drop, length}
use Rattle.std.specs.List.{AllByRecursion as Every}
use Rattle.node.specs.Handling.{IsInRange}
use Rattle.node.specs.declared.Part.{Part}
use Rattle.frames.specs.Bodies.{part_bytes}
use Rattle.frames.specs.Ranges.{IsPart}
use Rattle.frames.proofs.ranges.parts_ranged.Given as goal

abbrev pub invariant-loop-part : goal.invariant-loop-part
invariant-loop-part l =
    Every (λ (p : Part). IsInRange p → length (part_bytes p) ≤ 2 ^ 24 → IsPart p) (drop l.part-index l.parts) → Every (λ (p : Part). IsInRange p → length (part_bytes p) ≤ 2 ^ 24 → IsPart p) l.parts
