-- What each call of the plain runner of a simulation does.
use Rattle.std.specs.List.{AllByRecursion as Every}
use Rattle.std.specs.Prelude.{◌≡◌, ℕ, List, [], ◌∷◌, ◌++◌, ◌+◌, ◌^◌, ◌<◌, ◌≤◌, length, max, Some}
use Rattle.std.specs.Prelude.{Bool, false, nat_lt}
use Rattle.eventkey.specs.Bag.{IsAscending}
use Rattle.eventkey.specs.Message.{IsAtMost, Message}
use Rattle.model.specs.Meaning.{IsAddressed, Meaning}
use Rattle.model.specs.World.{IsWorld, Reaches, World, at_time, number_of, state_of, step}

-- a world, and the time at which its simulation ends
pub record Simulation : Type 0 where
  pub end : ℕ
  pub world : World

-- no message is pending before this time
abbrev pub IsIdle : ℕ → World → Type 0
IsIdle end w = Every (λ (x : Message). end ≤ x.time) w.pending

-- the first of these messages is before this time
abbrev pub is_due : ℕ → List Message → Bool
is_due bound [] = false
is_due bound (x ∷ rest) = nat_lt x.time bound

-- the least pending message is before the end, and handling it would take the send number of its
-- receiver past the limit
pub record IsLimited (m : Meaning) (end : ℕ) (w : World) : Type 0 where
  pub least : Message
  pub rest : List Message
  pub pending : w.pending ≡ least ∷ rest
  pub early : least.time < end
  pub over : 2 ^ 63 < number_of w least.to + length (m.sends least.to (state_of w least.to) least)

-- new is old after one step, which handles x and appends it to the log
pub record Handles (m : Meaning) (end : ℕ) (old : World) (x : Message) (new : World) : Type 0 where
  pub is : step m end old ≡ Some new
  pub logged : new.log ≡ old.log ++ x ∷ []

-- new is old after some steps, each of a message before the bound
pub record IsRun (m : Meaning) (bound : ℕ) (old new : World) : Type 0 where
  pub steps : ℕ
  pub reached : Reaches m bound steps old new

-- new is old after all steps of messages before the bound, with a time that is at least the bound
pub record RunsTo (m : Meaning) (bound : ℕ) (old new : World) : Type 0 where
  pub run : IsRun m bound old (at_time old.time new)
  pub left : IsIdle bound new
  pub time : new.time ≡ max old.time bound

-- nodes can be loaded with this world and go on from its time up to this end
pub record IsLoadable (lps end : ℕ) (w : World) : Type 0 where
  pub world : IsWorld lps w
  pub numbers : Every (λ number. number ≤ 2 ^ 63) w.numbers
  pub within : w.time ≤ end
  pub left : IsIdle w.time w

-- a world that a simulation reaches is in order: so are its states, numbers, messages and log
pub record IsReached (lps : ℕ) (w : World) : Type 0 where
  pub world : IsWorld lps w
  pub numbers : Every (λ number. number ≤ 2 ^ 63) w.numbers
  pub logged : Every (IsAddressed lps) w.log
  pub log_ascends : IsAscending w.log
  -- each logged message is at most each pending one
  pub past : Every (λ (x : Message). Every (λ (y : Message). IsAtMost y x) w.log) w.pending
