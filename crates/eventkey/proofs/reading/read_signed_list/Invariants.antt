use Rattle.std.proofs.Common.{◌≡◌, ◌-◌}
use Rattle.eventkey.specs.Reading.{items_at}
use Rattle.eventkey.specs.Encoding.{signed_at}
use Rattle.eventkey.proofs.Loop.{with_front}
use Rattle.eventkey.proofs.reading.read_signed_list.Given as goal

abbrev pub invariant-loop : goal.invariant-loop
invariant-loop l = with_front l.list.items (items_at signed_at (l.count - l.counter) l.rest) ≡ items_at signed_at l.count l.bytes
