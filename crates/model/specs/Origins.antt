-- A simulation that goes on from a world of another one. What it does is
-- what the other one does from that world on.
use Rattle.std.specs.Prelude.{ℕ, List, [], ◌∷◌, ◌++◌, ◌+◌, ◌≡◌, ◌≤◌, ◌^◌, length, Option, Some, None}
use Rattle.eventkey.specs.Message.{Message}
use Rattle.model.specs.Meaning.{IsLawful, Meaning}
use Rattle.model.specs.World.{IsUpto, World, at_time, opening}
use Rattle.model.specs.declared.origin.Origin.{Origin}

-- 1. Continuations

-- an origin, or else the one that the model has
abbrev pub or_own : Option Origin → Option Origin → Option Origin
or_own None own = own
or_own (Some o) own = Some o

-- the model whose simulation begins with this origin, or the model itself if there is none
abbrev pub continued : Meaning → Option Origin → Meaning
continued m o = record {
  lps = m.lps;
  identity = m.identity;
  origin = or_own o m.origin;
  start_state = m.start_state;
  start_sends = m.start_sends;
  next_state = m.next_state;
  sends = m.sends;
}

-- a world as an origin: without its time and its log
abbrev pub as_origin : World → Origin
as_origin w = record { states = w.states; numbers = w.numbers; pending = w.pending }

-- the model whose simulation goes on from this world
abbrev pub from_world : Meaning → World → Meaning
from_world m v = continued m (Some (as_origin v))

-- the world with these events before those of its log
abbrev pub behind : List Message → World → World
behind events w = record {
  time = w.time;
  states = w.states;
  numbers = w.numbers;
  pending = w.pending;
  log = events ++ w.log;
}

-- the sum of these numbers
abbrev pub total : List ℕ → ℕ
total [] = 0
total (n ∷ ns) = n + total ns

-- 2. Laws

-- Let v be the simulation up to g0. The simulation that goes on from v, up to a later time g, is the
-- whole simulation up to g, but for the events of v, which its log lacks.
abbrev pub ContinuationIsPart : Type 0
ContinuationIsPart = (m : Meaning) (end g0 g : ℕ) (v w : World) → IsUpto m end g0 v → g0 ≤ g →
    IsUpto (from_world m v) end g w → IsUpto m end g (behind v.log w)

-- Conversely, the whole simulation up to g is the one that goes on from v, with the events of v.
abbrev pub ContinuationIsAll : Type 0
ContinuationIsAll = (m : Meaning) (end g0 g : ℕ) (v w : World) → IsUpto m end g0 v → g0 ≤ g →
    IsUpto m end g w → (u : World) × IsUpto (from_world m v) end g u × (w ≡ behind v.log u)

-- Up to g0 the continuation is v without its log: nothing before g0 is pending at its beginning.
abbrev pub ContinuationBegins : Type 0
ContinuationBegins = (m : Meaning) (end g0 : ℕ) (v : World) → IsUpto m end g0 v →
    IsUpto (from_world m v) end g0 (at_time g0 (opening (from_world m v)))

-- A model whose simulation goes on from one of its worlds keeps the laws of a model.
abbrev pub ContinuationIsLawful : Type 0
ContinuationIsLawful = (m : Meaning) (end g0 : ℕ) (v : World) → IsLawful m → end ≤ 2 ^ 40 →
    IsUpto m end g0 v → IsLawful (from_world m v)

-- What goes on from a continuation goes on from the whole simulation.
abbrev pub ContinuationsJoin : Type 0
ContinuationsJoin = (m : Meaning) (v w : World) → from_world (from_world m v) w ≡ from_world m w

-- Each message that was sent is handled or pending. So the number of events before an origin, which
-- the origin does not have, is the sum of its send numbers less the number of its pending messages.
abbrev pub EventsAreCounted : Type 0
EventsAreCounted = (m : Meaning) (end g : ℕ) (w : World) → IsLawful m → end ≤ 2 ^ 40 →
    m.origin ≡ None → IsUpto m end g w → total w.numbers ≡ length w.log + length w.pending
