-- The inside of the list of waiting messages: two parts, and the number of messages.
use Rattle.std.specs.Prelude.{List, length, ◌≡◌}
use Rattle.eventkey.specs.Message.{Message}
use Rattle.queues.specs.Split.{IsSplit, both}
use Rattle.queues.specs.declared.event_list.EventList.TheInside.{Inside}

abbrev pub all_waiting : Inside → List Message
all_waiting e = both e.near.items e.far

abbrev pub IsInTwo : Inside → Type 0
IsInTwo e = IsSplit e.near.items e.far × (e.len ≡ length (all_waiting e))
