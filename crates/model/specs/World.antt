-- The sequential simulation: one loop that always handles the least pending message.
use Rattle.std.specs.List.{AllByRecursion as Every}
use Rattle.std.specs.Prelude.{ℕ, List, zero, suc, ◌+◌, [], ◌∷◌, ◌++◌, length, map, flat_map, get_or}
use Rattle.std.specs.Prelude.{set, ◌^◌, Bool, nat_lt, nat_le, ◌&&◌, Option, Some, None}
use Rattle.std.specs.Prelude.{if◌then◌else◌, ◌≡◌, ◌<◌, ◌≤◌}
use Rattle.eventkey.specs.Bag.{IsAscending, add_all}
use Rattle.eventkey.specs.Message.{Message}
use Rattle.model.specs.Meaning.{IsAddressed, IsWords, Meaning, stamp}
use Rattle.model.specs.declared.origin.Origin.{Origin}

pub record World : Type 0 where
  pub time : ℕ
  pub states : List (List ℕ)
  pub numbers : List ℕ
  pub pending : List Message  -- a bag, so in ascending order
  pub log : List Message

-- the world of these parts
abbrev pub world_with : ℕ → List (List ℕ) → List ℕ → List Message → List Message → World
world_with time states numbers pending log = record {
  time = time;
  states = states;
  numbers = numbers;
  pending = pending;
  log = log;
}

-- 0, 1, .. below n
abbrev pub below : ℕ → List ℕ
below zero = []
below (suc n) = below n ++ n ∷ []

-- what the processes do at their start
abbrev pub starting : Meaning → Origin
starting m = record {
  states = map m.start_state (below m.lps);
  numbers = map (λ lp. length (m.start_sends lp)) (below m.lps);
  pending = add_all (flat_map (λ lp. stamp lp 0 0 (m.start_sends lp)) (below m.lps)) [];
}

-- the given origin, or else this one
abbrev pub given_or : Option Origin → Origin → Origin
given_or None o = o
given_or (Some given) o = given

-- where a simulation of the model begins
abbrev pub origin_of : Meaning → Origin
origin_of m = given_or m.origin (starting m)

-- the world at its beginning: nothing is handled yet
abbrev pub opening_at : Origin → World
opening_at o = record {
  time = 0;
  states = o.states;
  numbers = o.numbers;
  pending = o.pending;
  log = [];
}

abbrev pub opening : Meaning → World
opening m = opening_at (origin_of m)

abbrev pub state_of : World → ℕ → List ℕ
state_of w lp = get_or w.states lp []

abbrev pub number_of : World → ℕ → ℕ
number_of w lp = get_or w.numbers lp 0

-- the world after its least pending message x is handled; rest are the other pending messages
abbrev pub handled : Meaning → World → Message → List Message → World
handled m w x rest =
    let sent = m.sends x.to (state_of w x.to) x in
    record {
      time = w.time;
      states = set w.states x.to (m.next_state x.to (state_of w x.to) x);
      numbers = set w.numbers x.to (number_of w x.to + length sent);
      pending = add_all (stamp x.to x.time (number_of w x.to) sent) rest;
      log = w.log ++ x ∷ [];
    }

-- the least pending message is before the end, and its sends keep within the limit of send numbers
abbrev pub can_handle : Meaning → ℕ → World → Message → Bool
can_handle m end w x =
    nat_lt x.time end
    && nat_le (number_of w x.to + length (m.sends x.to (state_of w x.to) x)) (2 ^ 63)

abbrev pub step_from : Meaning → ℕ → World → List Message → Option World
step_from m end w [] = None
step_from m end w (x ∷ rest) = if can_handle m end w x then Some (handled m w x rest) else None

abbrev pub step : Meaning → ℕ → World → Option World
step m end w = step_from m end w w.pending

-- n steps lead from v to w
abbrev pub Reaches : Meaning → ℕ → ℕ → World → World → Type 0
Reaches m end zero v w = w ≡ v
Reaches m end (suc n) v w = (u : World) × (step m end v ≡ Some u) × Reaches m end n u w

-- there is a state and a send number for each process, and pending messages ascend and are valid
pub record IsWorld (lps : ℕ) (w : World) : Type 0 where
  pub states : length w.states ≡ lps
  pub numbers : length w.numbers ≡ lps
  pub ascending : IsAscending w.pending
  pub addressed : Every (IsAddressed lps) w.pending
  pub words : Every IsWords w.states

abbrev pub at_time : ℕ → World → World
at_time g w = record w { time = g }

-- w is the sequential simulation up to g: every message before g is in the log, and none before g is
-- pending. It is meant for g up to the end: past the end there is such a world only if nothing
-- before g is left.
pub record IsUpto (m : Meaning) (end g : ℕ) (w : World) : Type 0 where
  pub steps : ℕ
  pub reached : Reaches m end steps (opening m) (at_time 0 w)
  pub time : w.time ≡ g
  pub logged : Every (λ (x : Message). x.time < g) w.log
  pub left : Every (λ (x : Message). g ≤ x.time) w.pending
