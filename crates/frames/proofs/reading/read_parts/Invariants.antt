use Rattle.std.proofs.Common.{◌≡◌, ◌-◌}
use Rattle.eventkey.specs.Reading.{items_at}
use Rattle.eventkey.proofs.Loop.{with_front}
use Rattle.frames.specs.Bodies.{part_at}
use Rattle.frames.proofs.reading.read_parts.Given as goal

abbrev pub invariant-loop : goal.invariant-loop
invariant-loop l = with_front l.parts.items (items_at part_at (l.count - l.counter) l.rest) ≡ items_at part_at l.count l.bytes
