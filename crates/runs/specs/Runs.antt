-- Whole runs on a disk, by their outcome.
use Rattle.std.specs.Prelude.{Err, IfErr, IfOk, List, Ok, Result, replicate, ℕ, ◌≡◌, ◌≢◌}
use Rattle.coordinator.specs.Opening.{AllFaithful}
use Rattle.coordinator.specs.PortFaults.{IsFaultInProgram, IsFaultOfPorts}
use Rattle.coordinator.specs.declared.SessionFault.TheVariants.{Port, Reports}
use Rattle.disk.specs.Disk.{DiskState}
use Rattle.model.specs.Meaning.{Meaning}
use Rattle.recovery.specs.Represents.{IsGenuine}
use Rattle.recovery.specs.Runs.{CommitsSimulation, RunEnd}
use Rattle.recovery.specs.Runs.RunEnd.{AtEnd, AtFault, AtStop}
use Rattle.runs.specs.Driver.{IsRunOver, IsUnfinished, RunHasCause, TrustsOnlyFaithful}
use Rattle.runs.specs.declared.over.Finished.{Finished}
use Rattle.runs.specs.declared.rounds.Plan.{Plan}
use Rattle.runs.specs.declared.rounds.RunFault.{RunFault}
use Rattle.runs.specs.declared.rounds.RunFault.TheVariants.{Rounds, Session, Stopped}
use Rattle.wire.specs.Local.{state_by, state_of}
use Rattle.wire.specs.Port.{PortState}
use Rattle.wire.specs.declared.local.Held.TheVariants.{Fresh}
use Rattle.wire.specs.declared.port.PortFault.{PortFault}

-- how a run with this outcome ended
abbrev pub ended : Result Finished RunFault → RunEnd
ended (Ok done) = AtEnd done.time done.events
ended (Err (Stopped time events)) = AtStop time events
ended (Err fault) = AtFault

-- The faults that a run over faithful ports can have, on a disk whose records are genuine. A fault of
-- a port is one that `OfPorts` allows; no commit finds reports that are not those of the model; and
-- `Rounds` comes only after all rounds, before the end.
pub record IsFaultOverFaithful (OfPorts : PortFault → Type 0) (m : Meaning) (end : ℕ) (plan : Plan)
    (image : List (List ℕ)) (fault : RunFault) : Type 0 where
  pub port : (own : PortFault) → fault ≡ Session (Port own) → OfPorts own
  pub reports : fault ≢ Session Reports
  pub rounds : fault ≡ Rounds → IsUnfinished m end plan image

-- A run over ports in these states.
pub record IsRun {M P D : Type 0} (meaning : M → Meaning) (state : P → PortState)
    (disk : D → DiskState) (model : M) (end : ℕ) (plan : Plan) (ports : List PortState) (old new : D)
    (outcome : Result Finished RunFault) : Type 0 where
  -- Over any ports it makes the plan's rounds and nothing else, until it reaches its end.
  pub over : IfOk outcome (IsRunOver meaning state disk model end plan old new)
  -- Over any ports it has a cause if it does not: the opening of its session was refused, or a step
  -- which the plan makes next; all rounds were made; it was asked to stop; or an allocation failed.
  pub cause : IfErr outcome (RunHasCause meaning state disk model end plan ports old new)
  -- If its commits are judged or its ports are faithful, it commits the sequential simulation.
  pub simulation : TrustsOnlyFaithful plan (meaning model) ports →
      CommitsSimulation (meaning model) end (disk old) (disk new) (ended outcome)
  -- Over faithful ports, and if the records of the disk are genuine, a fault of a port is a resource
  -- fault that ports of this type can have, or a handling would pass the number limit.
  pub faults : AllFaithful (meaning model) ports → IsGenuine (meaning model) end (disk old).reads →
      IfErr outcome (IsFaultOverFaithful (IsFaultOfPorts state) (meaning model) end plan
      (disk old).reads)

-- A run over nodes in this program, whose ports are faithful.
pub record IsRunInProgram {M D : Type 0} (meaning : M → Meaning) (disk : D → DiskState) (model : M)
    (end : ℕ) (plan : Plan) (old new : D) (outcome : Result Finished RunFault) : Type 0 where
  -- It makes the plan's rounds and nothing else, until it reaches its end.
  pub over : IfOk outcome (IsRunOver meaning (state_by meaning) disk model end plan old new)
  -- It has a cause if it does not.
  pub cause : IfErr outcome (RunHasCause meaning (state_by meaning) disk model end plan
      (replicate plan.nodes (state_of (meaning model) Fresh)) old new)
  -- It commits the sequential simulation.
  pub simulation : CommitsSimulation (meaning model) end (disk old) (disk new) (ended outcome)
  -- If the records of the disk are genuine, a fault of a port is that of a node: its memory is
  -- exhausted, or a handling would pass the number limit.
  pub faults : IsGenuine (meaning model) end (disk old).reads →
      IfErr outcome (IsFaultOverFaithful IsFaultInProgram (meaning model) end plan (disk old).reads)
