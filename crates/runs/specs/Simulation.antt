-- What a simulation on a disk leaves and returns, and why a call fails.
use Rattle.std.specs.Prelude.{ℕ, Err, IfOk, IsErrOf, List, None, Ok, OnOk, Option, Result, Some, ◌≡◌, ◌⊎◌}
use Rattle.commitlog.specs.Faults.{FormatIsRefused, OpenIsRefused}
use Rattle.commitlog.specs.Records.{IsBlank, IsFormatted, records_of}
use Rattle.commitlog.specs.declared.fault.LogFault.TheVariants as log
use Rattle.commitlog.specs.declared.records.Entry.{Entry}
use Rattle.coordinator.specs.Opening.{IsAtFault}
use Rattle.coordinator.specs.PortFaults.{IsFaultInProgram}
use Rattle.coordinator.specs.declared.SessionFault.TheVariants.{Port}
use Rattle.disk.specs.Disk.{DiskState}
use Rattle.disk.specs.declared.disk.DiskFault.TheVariants.{Device}
use Rattle.disk.specs.declared.returned.Returned.{Returned}
use Rattle.disk.specs.declared.file.FileFault.{FileFault}
use Rattle.disk.specs.declared.file.FileFault.TheVariants as opening
use Rattle.runs.specs.declared.rounds.RunFault.{RunFault}
use Rattle.runs.specs.declared.rounds.RunFault.TheVariants as run
use Rattle.model.specs.Meaning.{Meaning}
use Rattle.model.specs.Runner.{Simulation}
use Rattle.model.specs.World.{IsUpto, World}
use Rattle.recovery.specs.Ends.{HoldsLog}
use Rattle.recovery.specs.Front.{world_of}
use Rattle.recovery.specs.Replay.{in_force}
use Rattle.recovery.specs.Represents.{Recovers, Represents, RepresentsAtLeast}
use Rattle.recovery.specs.declared.RecoveryFault.{RecoveryFault}
use Rattle.recovery.specs.declared.RecoveryFault.TheVariants as recovery
use Rattle.runs.specs.declared.over.Finished.{Finished}
use Rattle.runs.specs.declared.simulating.Outcome.{Outcome}
use Rattle.runs.specs.declared.fault.SimulationFault.{SimulationFault}
use Rattle.runs.specs.declared.fault.SimulationFault.TheVariants.{File, Log, NoMemory}
use Rattle.runs.specs.declared.fault.SimulationFault.TheVariants.{Recovery, Rounds, Session, Stopped}
use Rattle.wire.specs.declared.port.PortFault.{PortFault}

-- 1. What remains on the disk

-- an image without a log, or one that represents this world
abbrev pub IsBlankOrRepresents : Meaning → ℕ → World → List (List ℕ) → Type 0
IsBlankOrRepresents m end w image = IsBlank image ⊎ Represents m end image w

-- an image without a log, or one that represents some world
abbrev pub IsBlankOrRepresentsSo : Meaning → ℕ → List (List ℕ) → Type 0
IsBlankOrRepresentsSo m end image = IsBlank image ⊎ RepresentsAtLeast m end 0 image

-- What a simulation returns from a disk without a log, or whose records are genuine.
pub record IsSimulated {D : Type 0} (disk : D → DiskState) (m : Meaning) (end : ℕ)
    (result : Returned D Outcome SimulationFault) : Type 0 where
  -- It is the sequential simulation up to the end, which the disk represents.
  pub finished : IfOk result.outcome (λ outcome. IsUpto m end end (world_of outcome.front))
  pub represents : IfOk result.outcome (λ outcome.
      Represents m end (disk result.disk).reads (world_of outcome.front))
  -- A crash now leaves a world that is not before the end.
  pub committed : OnOk result.outcome (Recovers m end end (disk result.disk))
  -- A fault of a port is that of a node: its memory is exhausted, or a handling would pass the
  -- number limit.
  pub faults : (fault : PortFault) → IsErrOf result.outcome (Session (Port fault)) →
      IsFaultInProgram fault

-- 2. Faults; `failed` says that the device failed during the call

-- why no log could be made on a disk without one
abbrev pub PreparingIsRefused : SimulationFault → List (List ℕ) → Type 0 → Type 0
PreparingIsRefused (Log log.NotBlank) image failed = ⊥
PreparingIsRefused (Log fault) image failed = FormatIsRefused fault image failed
PreparingIsRefused fault image failed = ⊥

-- Why no world is recovered from the log of an image: an allocation or the device failed, the log
-- is not one of this model with this end in force although its records can be read, or a record is
-- at fault, of which the first is the cause.
abbrev pub IsNotRecovered : Meaning → ℕ → List (List ℕ) → RecoveryFault → Type 0 → Type 0
IsNotRecovered m end image recovery.NoMemory failed = Unit {0}
IsNotRecovered m end image (recovery.Log log.NoMemory) failed = Unit {0}
IsNotRecovered m end image (recovery.Log (log.Disk Device)) failed = failed
IsNotRecovered m end image (recovery.Log fault) failed = ⊥
IsNotRecovered m end image recovery.OtherModel failed =
    IsFormatted image × ((entries : List Entry) → HoldsLog m end entries image → ⊥)
    × (records_of image ≡ None → ⊥)
IsNotRecovered m end image fault failed = IsAtFault m end image fault

-- why what is committed could not be read
abbrev pub ReadingIsRefused : Meaning → ℕ → SimulationFault → List (List ℕ) → Type 0 → Type 0
ReadingIsRefused m end (Log fault) image failed = OpenIsRefused fault image failed
ReadingIsRefused m end (Recovery fault) image failed = IsNotRecovered m end image fault failed
ReadingIsRefused m end fault image failed = ⊥

-- the fault of a run as a `SimulationFault`
abbrev pub of_run : RunFault → SimulationFault
of_run (run.Session fault) = Session fault
of_run run.Rounds = Rounds
of_run (run.Stopped time events) = Stopped
of_run run.NoMemory = NoMemory

-- the outcome of a run as that of `run`
abbrev pub as_simulated : Result Finished RunFault → Result Finished SimulationFault
as_simulated (Ok done) = Ok done
as_simulated (Err fault) = Err (of_run fault)

-- the fault of a file that could not be opened as a disk
abbrev pub of_file : FileFault → SimulationFault
of_file opening.File = File
of_file opening.NoMemory = NoMemory

-- 3. Calls of a history

-- the front that a simulation returned as committed
abbrev pub simulated : ℕ → Result Outcome SimulationFault → Option Simulation
simulated end (Ok outcome) = Some (in_force end (world_of outcome.front))
simulated end (Err fault) = None
