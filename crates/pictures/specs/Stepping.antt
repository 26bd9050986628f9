-- A simulation that forgets the events that it has handled.
use Rattle.std.specs.Prelude.{ℕ, Bool, List, [], ◌++◌, None, Option, Some, false, nat_lt}
use Rattle.eventkey.specs.Message.{Message}
use Rattle.model.specs.Meaning.{Meaning}
use Rattle.model.specs.Runner.{IsRun}
use Rattle.model.specs.World.{World, opening}

-- the same world with another log
abbrev pub with_log : List Message → World → World
with_log log w = record w { log = log }

-- the same world, which has forgotten the events that it handled
abbrev pub without_log : World → World
without_log w = with_log [] w

-- there is a message, and it is before this time
abbrev pub comes_before : Option Message → ℕ → Bool
comes_before None time = false
comes_before (Some x) time = nat_lt x.time time

-- The simulation of a model has come to a world, of whose events it has forgotten the first ones:
-- steps before the bound lead from the opening to the world with all of them in its log.
abbrev pub IsPassed : Meaning → ℕ → List Message → World → Type 0
IsPassed m bound past w = IsRun m bound (opening m) (with_log (past ++ w.log) w)
