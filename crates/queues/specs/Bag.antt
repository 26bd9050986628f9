-- The inside of a bag: its messages grouped by time, and their number.
use Rattle.std.specs.Prelude.{List, length, ◌≡◌}
use Rattle.eventkey.specs.Message.{Message}
use Rattle.queues.specs.Buckets.{IsParted, all_of}
use Rattle.queues.specs.declared.bag.Bag.TheInside.{Inside}

abbrev pub messages_of : Inside → List Message
messages_of b = all_of b.times.entries

abbrev pub IsCounted : Inside → Type 0
IsCounted b = IsParted b.times.entries × (b.len ≡ length (all_of b.times.entries))
