use Rattle.std.proofs.Common.{◌≡◌, ◌-◌, length}
use Rattle.eventkey.proofs.Loop.{with_front}
use Rattle.eventkey.specs.Reading.{items_at, number_at}
use Rattle.process.proofs.encoding.numbers_in.Given as goal

abbrev pub invariant-loop : goal.invariant-loop
invariant-loop l = record {
  so_far : with_front l.words.items (items_at (number_at 8) (l.count - l.counter) l.rest) ≡ items_at (number_at 8) l.count l.bytes;
  many : length l.words.items ≡ l.counter;
  room : l.words.capacity ≡ 16;
}
