use Rattle.std.proofs.Common.{◌≡◌, ◌-◌, length}
use Rattle.eventkey.proofs.Loop.{with_front}
use Rattle.eventkey.specs.Encoding.{message_at}
use Rattle.eventkey.specs.Reading.{items_at}
use Rattle.process.proofs.encoding.messages_in.Given as goal

abbrev pub invariant-loop : goal.invariant-loop
invariant-loop l = record {
  so_far : with_front l.messages.items (items_at message_at (l.count - l.counter) l.rest) ≡ items_at message_at l.count l.bytes;
  many : length l.messages.items ≡ l.counter;
  room : l.messages.capacity ≡ 8;
}
