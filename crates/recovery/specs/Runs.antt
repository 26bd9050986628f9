-- Runs, as calls on a disk: how one ends, and that it commits what the sequential simulation does.
use Rattle.std.specs.Prelude.{None, Option, Some, ℕ, ⊤}
use Rattle.disk.specs.Disk.{DiskState}
use Rattle.model.specs.Meaning.{Meaning}
use Rattle.model.specs.World.{World}
use Rattle.recovery.specs.Crashes.{KeepsRecovery}
use Rattle.recovery.specs.Histories.{IsKeptRun, IsRunOf, IsStoppedAt}
use Rattle.recovery.specs.Represents.{IsGenuine, Recovers}

-- How a run ends: at the end of its simulation, or because it was asked to stop, each with the time
-- before which everything is committed and the number of committed events; or with a fault.
pub data RunEnd : Type 0 where
  AtEnd : ℕ → ℕ → RunEnd
  AtStop : ℕ → ℕ → RunEnd
  AtFault : RunEnd

-- the time and the number of events that a run which ended so acknowledges as committed
abbrev pub acknowledged : RunEnd → Option (ℕ × ℕ)
acknowledged (AtEnd time events) = Some (time, events)
acknowledged (AtStop time events) = Some (time, events)
acknowledged AtFault = None

-- The numbers with which a run ends are those of the sequential simulation, up to its end or up to
-- the time of the stop, and the disk that it leaves recovers to at least that time.
abbrev pub EndsAsSimulated : Meaning → ℕ → DiskState → RunEnd → Type 0
EndsAsSimulated m end new (AtEnd time events) = IsRunOf m end time events × Recovers m end end new
EndsAsSimulated m end new (AtStop time events) =
    IsStoppedAt m end time events × Recovers m end time new
EndsAsSimulated m end new AtFault = ⊤

-- A run commits what the sequential simulation does, at every exit.
pub record CommitsSimulation (m : Meaning) (end : ℕ) (old new : DiskState) (ended : RunEnd) :
    Type 0 where
  -- It is a call of a history of the headline, which acknowledges the front that it reached, or at
  -- which it was stopped.
  pub kept : (v : World) → IsKeptRun m end v old new (acknowledged ended)
  -- Crash safety: what recovered to at least time `a` before still does, during and after the run.
  pub crashes : (a : ℕ) → Recovers m end a old → KeepsRecovery m end a a old new
  -- if the records of the disk are genuine
  pub genuine : IsGenuine m end old.reads → EndsAsSimulated m end new ended
