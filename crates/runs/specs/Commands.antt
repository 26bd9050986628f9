-- What the commands on a disk print.
use Rattle.std.specs.Io.KnownBytes.{Appends}
use Rattle.std.specs.Prelude.{◌≡◌, ◌≢◌, ◌≤◌, ◌⊎◌, ℕ, List, [], ◌++◌, Option, codes, decimal, flat_map}
use Rattle.std.specs.Prelude.{Err, IsOkUnless, None, Ok, OnOk, Result, get_or, length}
use Rattle.runs.specs.declared.commands.fault.CommandFault.{CommandFault}
use Rattle.runs.specs.declared.commands.fault.CommandFault.TheVariants.{Log, NoMemory, Output, Recovery}
use Rattle.runs.specs.declared.commands.fault.CommandFault.TheVariants.{Rounds, Session, Stopped}
use Rattle.commitlog.specs.Faults.{FormatIsRefused, OpenIsRefused}
use Rattle.commitlog.specs.Log.{IsDurable}
use Rattle.commitlog.specs.Records.{IsBlank, IsFormatted, records_of}
use Rattle.commitlog.specs.declared.fault.LogFault.TheVariants as log
use Rattle.commitlog.specs.declared.records.Entry.{Entry}
use Rattle.coordinator.specs.Extending.{IsExtended}
use Rattle.coordinator.specs.Opening.{IsAtFault, LeavesExactly}
use Rattle.coordinator.specs.declared.SessionFault.{SessionFault}
use Rattle.coordinator.specs.declared.SessionFault.TheVariants as session
use Rattle.disk.specs.Disk.{DiskState}
use Rattle.disk.specs.declared.disk.DiskFault.TheVariants.{Device}
use Rattle.plain.specs.declared.PlainFault.{PlainFault}
use Rattle.plain.specs.declared.PlainFault.TheVariants as plain
use Rattle.plain.specs.declared.whole.Reached.{Reached}
use Rattle.recovery.specs.Histories.{IsBeginning}
use Rattle.runs.specs.declared.over.Finished.{Finished}
use Rattle.runs.specs.declared.rounds.RunFault.{RunFault}
use Rattle.runs.specs.declared.rounds.RunFault.TheVariants as run_fault
use Rattle.model.specs.Meaning.{Meaning}
use Rattle.model.specs.World.{IsUpto, World, below, opening}
use Rattle.recovery.specs.Ends.{HoldsLog, IsEnd, IsLater}
use Rattle.recovery.specs.Header.{header_bytes, header_of}
use Rattle.recovery.specs.Replay.{IsReplayedTo}
use Rattle.recovery.specs.Represents.{IsGenuine, Represents}
use Rattle.recovery.specs.declared.RecoveryFault.{RecoveryFault}
use Rattle.recovery.specs.declared.RecoveryFault.TheVariants as recovery
use Rattle.eventkey.specs.Writing.{TakesBeginning, Writes}

-- 1. Texts

abbrev pub formatted_text : ℕ → List ℕ
formatted_text sectors = codes "formatted " ++ decimal sectors ++ codes " sectors\n"

-- the line of one node: how many messages it handled
abbrev pub node_text : List ℕ → ℕ → List ℕ
node_text ran node =
    codes "node " ++ decimal node ++ (codes " ran " ++ decimal (get_or ran node 0)) ++ codes "\n"

-- the line of each node, then the time before which `events` events are committed
abbrev pub ran_text : List ℕ → ℕ → ℕ → List ℕ
ran_text ran time events =
    flat_map (node_text ran) (below (length ran))
    ++ (codes "committed " ++ decimal time) ++ (codes " events " ++ decimal events) ++ codes "\n"

-- the time before which `events` events are committed, by a run that was asked to stop
abbrev pub stopped_text : ℕ → ℕ → List ℕ
stopped_text time events =
    (codes "committed " ++ decimal time) ++ (codes " events " ++ decimal events) ++ codes "\n"

-- the end that was in force, and the new one
abbrev pub extended_text : ℕ → ℕ → List ℕ
extended_text before end =
    (codes "extended " ++ decimal before) ++ (codes " to " ++ decimal end) ++ codes "\n"

-- 2. What is printed

-- The image represents this world, and the world is the sequential simulation up to its time.
pub record RepresentsUpto (m : Meaning) (end : ℕ) (image : List (List ℕ)) (w : World) : Type 0 where
  pub represents : Represents m end image w
  pub upto : IsUpto m end w.time w

-- What a command prints at `Ok`, of which a writer that refuses has taken a beginning. At every other
-- fault nothing is printed (`same`). `Printed Taken` says that `Taken` holds of the command's text.
pub record IsPrinted (Printed : (List ℕ → Type 0) → Type 0)
    (outcome : Result (Unit {0}) CommandFault) (same : Type 0) (before after : Option (List ℕ)) :
    Type 0 where
  pub all : OnOk outcome (Printed (Appends before after))
  pub part : outcome ≡ Err Output → Printed (TakesBeginning before after)
  pub none : (fault : CommandFault) → outcome ≡ Err fault → fault ≢ Output → same

-- what a run that reached its end prints: how many messages each node handled, the time reached, and
-- the number of committed events
pub record Numbers : Type 0 where
  pub ran : List ℕ
  pub time : ℕ
  pub events : ℕ

-- What is printed of a run: the numbers of one that reached its end, unless the writer refuses; of
-- another one nothing (`same`), and its fault is that of the command.
abbrev pub PrintsRun : Result Numbers CommandFault → Result (Unit {0}) CommandFault → Type 0 →
    Option (List ℕ) → Option (List ℕ) → Type 0
PrintsRun (Ok done) outcome same before after =
    Writes before after outcome (ran_text done.ran done.time done.events) × IsOkUnless outcome Output
PrintsRun (Err fault) outcome same before after = (outcome ≡ Err fault) × same

-- A command made a run and printed its numbers: `Made` holds of the outcome of the run.
pub record MakesRun {T F : Type 0} (numbers : Result T F → Result Numbers CommandFault)
    (Made : Result T F → Type 0) (outcome : Result (Unit {0}) CommandFault) (same : Type 0)
    (before after : Option (List ℕ)) : Type 0 where
  pub run : Result T F
  pub made : Made run
  pub printed : PrintsRun (numbers run) outcome same before after

-- `Taken` holds of the output for a later end. That end is in force after the records that were on
-- the disk, which were replayed under the end before.
pub record PrintsExtended (m : Meaning) (end : ℕ) (old new : DiskState)
    (Taken : List ℕ → Type 0) : Type 0 where
  pub before : ℕ
  pub rises : IsLater before end
  pub front : World
  pub replayed : IsReplayedTo m before old.reads front
  pub extended : IsExtended end old new
  pub taken : Taken (extended_text before end)

-- 3. What a crash leaves

-- an image without a log, or one that represents this world
abbrev pub IsBlankOrRepresents : Meaning → ℕ → World → List (List ℕ) → Type 0
IsBlankOrRepresents m end w image = IsBlank image ⊎ Represents m end image w

-- A log without records was made for this simulation. If its end is from 1 to 2^40, each image that a
-- crash leaves represents the opening world, and a history of calls begins with the disk.
pub record IsNewLog (m : Meaning) (end : ℕ) (disk : DiskState) : Type 0 where
  pub empty : IsDurable (header_bytes (header_of m end)) [] disk
  pub represents : IsEnd end → LeavesExactly m end (opening m) disk
  pub begins : IsEnd end → IsBeginning m (opening m) disk

-- the work of a command is done, though its output may not be written
abbrev pub OnDone : Result (Unit {0}) CommandFault → Type 0 → Type 0
OnDone (Ok done) P = P
OnDone (Err Output) P = P
OnDone (Err fault) P = Unit {0}

-- 4. Faults

-- Why no log is made, or the output is not written. `failed` says that the device failed in the
-- call.
abbrev pub MakingIsRefused : CommandFault → List (List ℕ) → Type 0 → Type 0
MakingIsRefused (Log fault) image failed = FormatIsRefused fault image failed
MakingIsRefused Output image failed = Unit {0}
MakingIsRefused fault image failed = ⊥

-- Why no world is recovered from the log of an image: an allocation failure, a failed device, a log
-- that is not of this model with this end in force, though its records can be read, or the first
-- record at fault.
abbrev pub IsNotRecovered : Meaning → ℕ → List (List ℕ) → RecoveryFault → Type 0
IsNotRecovered m end image recovery.NoMemory = Unit {0}
IsNotRecovered m end image (recovery.Log log.NoMemory) = Unit {0}
IsNotRecovered m end image (recovery.Log (log.Disk Device)) = Unit {0}
IsNotRecovered m end image (recovery.Log fault) = ⊥
IsNotRecovered m end image recovery.OtherModel =
    IsFormatted image × ((entries : List Entry) → HoldsLog m end entries image → ⊥)
    × (records_of image ≡ None → ⊥)
IsNotRecovered m end image fault = IsAtFault m end image fault

-- Why the committed world is not recovered. It does not say whether the device failed, since the
-- disk is dropped.
abbrev pub LookingIsRefused : Meaning → ℕ → CommandFault → List (List ℕ) → Type 0
LookingIsRefused m end (Log fault) image = OpenIsRefused fault image (Unit {0})
LookingIsRefused m end (Recovery fault) image = IsNotRecovered m end image fault
LookingIsRefused m end fault image = ⊥

-- The fault is a session's fault, and its cause holds.
abbrev pub IsOfSession : CommandFault → (SessionFault → Type 0) → Type 0
IsOfSession (Session fault) Cause = Cause fault
IsOfSession fault Cause = ⊥

-- the command's fault for the fault of a run
abbrev pub of_run : RunFault → CommandFault
of_run (run_fault.Session fault) = Session fault
of_run run_fault.Rounds = Rounds
of_run (run_fault.Stopped time events) = Stopped time events
of_run run_fault.NoMemory = NoMemory

-- for the fault of a run without nodes
abbrev pub of_plain : PlainFault → CommandFault
of_plain (plain.Recovery fault) = Session (session.Recovery fault)
of_plain plain.NumberLimit = Session session.NumberLimit
of_plain plain.TooLong = Session session.TooLong
of_plain plain.Full = Session session.Full
of_plain plain.Disk = Session session.Disk
of_plain plain.Commits = Rounds
of_plain (plain.Stopped time events) = Stopped time events
of_plain plain.NoMemory = Session session.NoMemory

-- what a command prints of a run over nodes, and of one without nodes
abbrev pub numbers_of : Result Finished RunFault → Result Numbers CommandFault
numbers_of (Ok done) = Ok (record { ran = done.ran.items; time = done.time; events = done.events })
numbers_of (Err fault) = Err (of_run fault)

abbrev pub plain_numbers_of : Result Reached PlainFault → Result Numbers CommandFault
plain_numbers_of (Ok done) = Ok (record { ran = []; time = done.time; events = done.events })
plain_numbers_of (Err fault) = Err (of_plain fault)
