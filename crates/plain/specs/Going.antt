-- How the front of a plain run moves on.
use Rattle.std.specs.Prelude.{◌≡◌, ◌≤◌, ◌<◌, ◌+◌, ◌⊎◌, ◌++◌, ℕ, suc, List, length, max}
use Rattle.eventkey.specs.Message.{Message}
use Rattle.model.specs.Meaning.{Meaning}
use Rattle.model.specs.Runner.{IsIdle, IsLimited, Simulation}
use Rattle.model.specs.World.{IsUpto, Reaches, World, at_time, opening}

-- The front moved on to a later time: these events were handled, at least `every` of them unless
-- the end was reached, and nothing before the new time is pending.
pub record IsAdvanced (every : ℕ) (old new : Simulation) (events : List Message) : Type 0 where
  pub end_is : new.end ≡ old.end
  pub log : new.world.log ≡ old.world.log ++ events
  pub enough : (every ≤ length events) ⊎ (new.world.time ≡ new.end)
  pub later : old.world.time < new.world.time
  pub within : new.world.time ≤ new.end
  pub left : IsIdle new.world.time new.world

-- No more events than that: up to some virtual time there are fewer than `every` of them, and all
-- are up to the next virtual time. (At least one event is asked for.)
pub record IsLeast (m : Meaning) (end every : ℕ) (old new : World) : Type 0 where
  pub time : ℕ
  pub before : World
  pub upto : IsUpto m end time before
  pub few : length before.log < length old.log + max every 1
  pub last : World
  pub next : IsUpto m end (suc time) last
  pub all : new.log ≡ last.log

-- the sequential simulation comes to a world where the least pending message before the end would
-- take the send number of its receiver past the limit
pub record IsAtLimit (m : Meaning) (end : ℕ) : Type 0 where
  pub steps : ℕ
  pub world : World
  pub reached : Reaches m end steps (opening m) world
  pub limited : IsLimited m end world

-- The world went on, by steps of the sequential simulation, to a time that is not earlier. Nothing
-- is pending before that time.
pub record IsOn (m : Meaning) (end : ℕ) (old new : World) : Type 0 where
  pub steps : ℕ
  pub reached : Reaches m end steps (at_time 0 old) (at_time 0 new)
  pub later : old.time ≤ new.time
  pub within : new.time ≤ end
  pub left : IsIdle new.time new
