-- A run in detail: its events and how many messages each handling sent, and so when each message was
-- sent.
use Rattle.std.specs.List.{filter}
use Rattle.std.specs.Prelude.{ℕ, ◌≡◌, ◌==◌, Bool, List, [], ◌∷◌, ◌++◌, if◌then◌else◌, get_or, length}
use Rattle.std.specs.Prelude.{min, nat_le, replicate, set}
use Rattle.eventkey.specs.Message.{Message}
use Rattle.model.specs.Meaning.{Meaning}
use Rattle.model.specs.Runner.{IsLimited, IsRun}
use Rattle.model.specs.World.{IsUpto, World, opening}

pub record Run : Type 0 where
  pub time : ℕ  -- the virtual time up to which the run went
  pub first : List ℕ  -- how many messages each process sent at the opening
  pub events : List Message  -- the handled messages, in the order of handling
  pub sends : List ℕ  -- how many messages the handling of each of these sent
  pub pending : List Message  -- the messages that were not handled

-- how many messages the handling of each event of a log sends, from these states on
abbrev pub sends_of : Meaning → List (List ℕ) → List Message → List ℕ
sends_of m states [] = []
sends_of m states (x ∷ xs) =
    length (m.sends x.to (get_or states x.to []) x)
    ∷ sends_of m (set states x.to (m.next_state x.to (get_or states x.to []) x)) xs

-- r is the sequential simulation of a model up to a time, or up to its end if that is earlier
pub record IsRunOf (m : Meaning) (end to : ℕ) (r : Run) : Type 0 where
  pub world : World
  pub upto : IsUpto m end (min to end) world
  pub time : r.time ≡ world.time
  pub events : r.events ≡ world.log
  pub pending : r.pending ≡ world.pending
  pub first : r.first ≡ (opening m).numbers
  pub sends : r.sends ≡ sends_of m (opening m).states world.log

-- a message is not before this time
abbrev pub is_from : ℕ → Message → Bool
is_from time x = nat_le time x.time

-- a run whose time is another one, without the pending messages before that
abbrev pub left_at : ℕ → Run → Run
left_at time r = record r { time = time; pending = filter (is_from time) r.pending }

-- r is the part before a tick of the sequential simulation of a model up to a time, or up to its end
-- if that is earlier: the events before the tick, and of the messages that were sent by then those
-- that the simulation leaves
pub record IsPartBefore (m : Meaning) (end to before : ℕ) (r : Run) : Type 0 where
  pub part : Run
  pub part_is : IsRunOf m end (min to before) part
  pub is : r ≡ left_at (min to end) part

-- the run reaches a world where the send number of a process would pass the limit
pub record IsOverLimit (m : Meaning) (end to : ℕ) : Type 0 where
  pub world : World
  pub run : IsRun m (min to end) (opening m) world
  pub limited : IsLimited m (min to end) world

-- when a process sent in these events: the time of each event that it handled, once for each message
-- that the handling sent
abbrev pub sent_in : ℕ → List Message → List ℕ → List ℕ
sent_in lp [] counts = []
sent_in lp (x ∷ xs) [] = []
sent_in lp (x ∷ xs) (n ∷ ns) =
    (if x.to == lp then replicate n x.time else []) ++ sent_in lp xs ns

-- when a process sent its messages 0, 1, ..; those of the opening at 0
abbrev pub sending_times : Run → ℕ → List ℕ
sending_times r lp = replicate (get_or r.first lp 0) 0 ++ sent_in lp r.events r.sends

-- the virtual time at which a message was sent
abbrev pub sent_at : Run → Message → ℕ
sent_at r x = get_or (sending_times r x.from) x.number 0

-- the run after one more event, whose handling sent n messages, and with these pending messages
abbrev pub with_event : Run → Message → ℕ → List Message → Run
with_event r x n pending = record {
  time = r.time;
  first = r.first;
  events = r.events ++ x ∷ [];
  sends = r.sends ++ n ∷ [];
  pending = pending;
}
