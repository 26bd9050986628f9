use Rattle.std.proofs.Common.{◌≡◌, ◌-◌}
use Rattle.eventkey.specs.Reading.{items_at}
use Rattle.eventkey.specs.Encoding.{message_at}
use Rattle.eventkey.proofs.Loop.{with_front}
use Rattle.eventkey.proofs.reading.read_messages.Given as goal

abbrev pub invariant-loop : goal.invariant-loop
invariant-loop l = with_front l.messages.items (items_at message_at (l.count - l.counter) l.rest) ≡ items_at message_at l.count l.bytes
