-- What the attempts of a run do on its disk, and on the next disk if it is archived. The first disk is
-- the one that was opened, or made, for the run. What its file holds when it is opened is not said.
use Rattle.std.specs.Prelude.{◌≡◌, ◌≢◌, ◌≤◌, ◌<◌, ◌==◌, ◌⊎◌, ℕ, Bool, List, [], ◌∷◌, None, Option, Result}
use Rattle.std.specs.Prelude.{Err, OnOk, Some, false, length, not, true, unwrap_or}
use Rattle.segments.specs.Archiving.{IsNextDisk}
use Rattle.cli.specs.declared.command.RunArgs.{RunArgs}
use Rattle.runs.specs.Commands.{ran_text, stopped_text}
use Rattle.runs.specs.declared.commands.fault.CommandFault.{CommandFault}
use Rattle.runs.specs.declared.commands.fault.CommandFault.TheVariants as on_disk
use Rattle.disk.specs.Disk.{DiskState, OnlyLooks}
use Rattle.disk.specs.FileDisks.{FileState, disk_of_file}
use Rattle.disk_commands.specs.Disks.{IsUnused}
use Rattle.eventkey.specs.Writing.{Writes}
use Rattle.model.specs.Meaning.{Meaning}
use Rattle.model.specs.Origins.{continued}
use Rattle.model.specs.Runner.{Simulation}
use Rattle.model.specs.World.{World, opening}
use Rattle.model.specs.declared.origin.Origin.{Origin}
use Rattle.recovery.specs.Histories.{Event, IsBeginning, IsHistoryOfCalls, IsKept, IsKeptRun, IsRunOf, IsStoppedAt}
use Rattle.recovery.specs.OldRecords.{KeepsOldRecords}
use Rattle.recovery.specs.Represents.{IsGenuine}
use Rattle.views.specs.Reading.{BeginsWith, IsOn}
use Rattle.views.specs.Views.{Begins, Prints}
use Rattle.program.specs.declared.attempts.Next.{Next}
use Rattle.program.specs.declared.attempts.Next.TheVariants.{Other, Same}

-- 1. The disk of a run

-- The disk of a run as it was opened, and as the run begins: it was only looked at; or it was blank,
-- its log was made, and a history of calls begins with it.
abbrev pub IsMadeFor : Meaning → DiskState → DiskState → Type 0
IsMadeFor m old new =
    OnlyLooks old new ⊎ (IsUnused old.reads × IsBeginning m (opening m) new)

-- 2. One attempt

-- A call of a history that acknowledges no front, whatever front was acknowledged last; and the
-- records that are on the disk stay, of whatever model they are.
pub record KeepsAll (on : Meaning) (old new : DiskState) : Type 0 where
  pub call : (v : World) → IsKept on v (record { begun = old; ended = new; front = None })
  pub records : KeepsOldRecords old new

-- What an attempt prints at its end: what each node handled, the time reached, and the number of
-- committed events. As a call of a history it acknowledges the front that has them, whatever front
-- was acknowledged last. If the records were genuine, they are those of the sequential simulation up
-- to the end.
pub record IsRanOn (on : Meaning) (end nodes : ℕ) (old new : DiskState) (text : List ℕ) : Type 0 where
  pub ran : List ℕ
  pub time : ℕ
  pub events : ℕ
  pub each : length ran ≡ nodes
  pub reached : end ≤ time
  pub kept : (v : World) → IsKeptRun on end v old new (Some (time, events))
  pub genuine : IsGenuine on end old.reads → IsRunOf on end time events
  pub is : text ≡ ran_text ran time events

-- what is printed after an attempt that a file ended, before the end of its simulation
pub record IsStoppedOn (on : Meaning) (end : ℕ) (old new : DiskState) (text : List ℕ) : Type 0 where
  pub time : ℕ
  pub events : ℕ
  pub kept : (v : World) → IsKeptRun on end v old new (Some (time, events))
  pub genuine : IsGenuine on end old.reads → IsStoppedAt on end time events
  pub is : text ≡ stopped_text time events

-- What an attempt over node programs prints at its end, if its commits are not judged: what each node
-- handled as its program reported it, the time reached, not before the end, and a number of events.
-- Nothing more is promised of what it commits.
pub record IsRanAsReported (end nodes : ℕ) (text : List ℕ) : Type 0 where
  pub ran : List ℕ
  pub time : ℕ
  pub events : ℕ
  pub each : length ran ≡ nodes
  pub reached : end ≤ time
  pub is : text ≡ ran_text ran time events

-- after it was ended by a file: a time before the end, and a number of events
pub record IsStoppedAsReported (end : ℕ) (text : List ℕ) : Type 0 where
  pub time : ℕ
  pub events : ℕ
  pub early : time < end
  pub is : text ≡ stopped_text time events

-- What an attempt of a run has printed, by its outcome: `Ran` says what at its end, of which a
-- writer that refuses has taken a beginning, and otherwise nothing (`same`). After a stop `Stopped`
-- holds of what is printed next.
pub record IsTried {T : Type 0} (Ran Stopped : List ℕ → Type 0) (outcome : Result T CommandFault)
    (same : Type 0) (old new : Option (List ℕ)) : Type 0 where
  pub printed : OnOk outcome (Prints Ran old new)
  pub output : outcome ≡ Err on_disk.Output → Begins Ran old new
  pub unwritten : (f : CommandFault) → outcome ≡ Err f → f ≢ on_disk.Output → same
  pub stopped : (time events : ℕ) → outcome ≡ Err (on_disk.Stopped time events) →
      Stopped (stopped_text time events)

-- the time and the number of events in the fault of an attempt that was asked to stop
abbrev pub stopped_in : CommandFault → Option (ℕ × ℕ)
stopped_in (on_disk.Stopped time events) = Some (time, events)
stopped_in fault = None

-- An attempt as a call of a history. It reached its end and wrote the numbers of the front that it
-- acknowledges; or it ended with a fault, which has those numbers if it was asked to stop.
abbrev pub IsKeptAttempt : Meaning → ℕ → World → DiskState → DiskState → Option (List ℕ) →
    Option (List ℕ) → Result (Unit {0}) CommandFault → Type 0
IsKeptAttempt on end v old new before after outcome =
    ((ran : List ℕ) × (time : ℕ) × (events : ℕ)
    × Writes before after outcome (ran_text ran time events)
    × IsKeptRun on end v old new (Some (time, events)))
    ⊎ ((fault : CommandFault) × (outcome ≡ Err fault)
    × IsKeptRun on end v old new (stopped_in fault))

-- An attempt on a disk, at every exit: what it has printed, and that it is a call of a history,
-- whatever front was acknowledged last.
pub record IsAttempt (on : Meaning) (end nodes : ℕ) (old new : DiskState)
    (outcome : Result (Unit {0}) CommandFault) (same : Type 0) (before after : Option (List ℕ)) :
    Type 0 where
  pub tried : IsTried (IsRanOn on end nodes old new) (IsStoppedOn on end old new) outcome same
      before after
  pub kept : (v : World) → IsKeptAttempt on end v old new before after outcome

-- An attempt that trusts node programs, at every exit: what it has printed, and that the records
-- which were on the disk stay, whatever the programs report.
pub record IsTrustingAttempt (end nodes : ℕ) (old new : DiskState)
    (outcome : Result (Unit {0}) CommandFault) (same : Type 0) (before after : Option (List ℕ)) :
    Type 0 where
  pub tried : IsTried (IsRanAsReported end nodes) (IsStoppedAsReported end) outcome same before
      after
  pub records : KeepsOldRecords old new

-- the same by whether it trusts what node programs report
abbrev pub IsAttemptBy : Bool → Meaning → ℕ → ℕ → DiskState → DiskState →
    Result (Unit {0}) CommandFault → Type 0 → Option (List ℕ) → Option (List ℕ) → Type 0
IsAttemptBy false on end nodes old new outcome same before after =
    IsAttempt on end nodes old new outcome same before after
IsAttemptBy true on end nodes old new outcome same before after =
    IsTrustingAttempt end nodes old new outcome same before after

-- 3. One attempt after another

-- From what disk a run goes on after an attempt left this one: from the same one, on which all is
-- kept, and which may be longer; or from the next one, after it was archived.
abbrev pub GoesOnWith : Meaning → ℕ → DiskState → Next → Type 0
GoesOnWith on end left (Same disk) = KeepsAll on left (disk_of_file disk)
GoesOnWith on end left (Other disk) = IsNextDisk on end left.reads (disk_of_file disk)

-- What an attempt after which the run goes on does to its disk: it is a call of a history, whatever
-- front was acknowledged last. If it trusts node programs, the records that were on the disk stay.
abbrev pub IsCallBy : Bool → Meaning → DiskState → DiskState → Type 0
IsCallBy false on old new = (v : World) → (front : Option Simulation)
    × IsKept on v (record { begun = old; ended = new; front = front })
IsCallBy true on old new = KeepsOldRecords old new

-- an attempt after which the run goes on from this disk
pub record IsFollowed (trusts : Bool) (on : Meaning) (end : ℕ) (old : DiskState) (next : Next) :
    Type 0 where
  pub left : DiskState
  pub attempt : IsCallBy trusts on old left
  pub goes_on : GoesOnWith on end left next

-- The run goes on with a disk, whose simulation begins with the origin that is read from it; on the
-- same disk it begins as before.
abbrev pub IsGoneOn : ℕ → Option Origin → Next → FileState → Option Origin → Type 0
IsGoneOn lps origin (Same disk) now first = (now ≡ disk) × (first ≡ origin)
IsGoneOn lps origin (Other disk) now first =
    BeginsWith lps now.reads first × OnlyLooks (disk_of_file disk) (disk_of_file now)

-- The last attempt of a run. What it leaves may be looked at, or not be made longer.
pub record IsLastAttempt (trusts : Bool) (on : Meaning) (end nodes : ℕ) (old new : DiskState)
    (outcome : Result (Unit {0}) CommandFault) (same : Type 0) (before after : Option (List ℕ)) :
    Type 0 where
  pub left : DiskState
  pub attempt : IsAttemptBy trusts on end nodes old left outcome same before after
  pub rest : KeepsAll on left new

-- 4. The whole run

-- calls of a history lead from one state of a disk to the other, whatever front was acknowledged last
pub record AreCalls (on : Meaning) (v : World) (old new : DiskState) : Type 0 where
  pub events : List Event
  pub last : World
  pub history : IsHistoryOfCalls on v old events last new

-- What a run does on one disk, between two states of it: calls of a history lead from one to the
-- other, whatever front was acknowledged last. If it trusts node programs, whatever they report, the
-- records that the disk had at first stay at every moment in between, also over a crash.
abbrev pub KeepsDisk : Bool → Meaning → DiskState → DiskState → Type 0
KeepsDisk false on old new = (v : World) → AreCalls on v old new
KeepsDisk true on old new = KeepsOldRecords old new

-- a disk of a run that was archived: its simulation, the disk as its part of the run began, and as it
-- was archived
pub record Stretch : Type 0 where
  pub on : Meaning
  pub old : DiskState
  pub new : DiskState

-- The simulation on this image is `on`: that of the model, which begins with the origin that the image
-- has.
abbrev pub IsOnImage : Meaning → List (List ℕ) → Meaning → Type 0
IsOnImage m image on = (origin : Option Origin) × IsOn m image origin on

-- A run began on the first disk and came to the other one: it kept each disk before that, on its own
-- simulation, until it was archived, and the next one goes on from the world on it.
abbrev pub AreArchived : Bool → Meaning → ℕ → DiskState → List Stretch → DiskState → Type 0
AreArchived trusts m end disk [] now = now ≡ disk
AreArchived trusts m end disk (s ∷ ss) now = (s.old ≡ disk) × IsOnImage m disk.reads s.on
    × KeepsDisk trusts s.on s.old s.new
    × ((next : DiskState) × IsNextDisk s.on end s.new.reads next
    × AreArchived trusts m end next ss now)

-- A run that began on the disk `old` has come to the state `now` of a disk, whose simulation begins
-- with this origin.
pub record HasCome (trusts : Bool) (m : Meaning) (end : ℕ) (old : DiskState)
    (origin : Option Origin) (now : DiskState) : Type 0 where
  pub archived : List Stretch
  pub begun : DiskState
  pub are_archived : AreArchived trusts m end old archived begun
  pub begins : BeginsWith m.lps begun.reads origin
  pub keeps : KeepsDisk trusts (continued m origin) begun now

-- A whole run: from the disk that it began on to the one that it leaves, with its last attempt.
pub record IsWholeRun (trusts : Bool) (m : Meaning) (end nodes : ℕ) (old new : DiskState)
    (outcome : Result (Unit {0}) CommandFault) (same : Type 0) (before after : Option (List ℕ)) :
    Type 0 where
  pub origin : Option Origin
  pub now : DiskState
  pub come : HasCome trusts m end old origin now
  pub last : IsLastAttempt trusts (continued m origin) end nodes now new outcome same before after

-- 5. By the options of a run

-- whether each event that node programs report is judged: one in one
abbrev pub judges_all : Option ℕ → Bool
judges_all judge = unwrap_or judge 0 == 1

-- Whether a run over nodes trusts them: they are node programs, and its commits are not judged.
abbrev pub trusts_over : {S : Type 0} → Option S → Option ℕ → Bool
trusts_over None judge = false
trusts_over (Some folder) judge = not (judges_all judge)

abbrev pub trusts_by : Bool → {S : Type 0} → Option S → Option ℕ → Bool
trusts_by true folder judge = false
trusts_by false folder judge = trusts_over folder judge

-- whether the run of these arguments trusts node programs, and the number of its nodes
abbrev pub trusts_nodes : RunArgs → Bool
trusts_nodes args = trusts_by args.plain args.sockets args.judge

abbrev pub nodes_or_none : Bool → ℕ → ℕ
nodes_or_none true nodes = 0
nodes_or_none false nodes = nodes

abbrev pub nodes_of : RunArgs → ℕ
nodes_of args = nodes_or_none args.plain args.nodes
