-- What the program prints.
use Rattle.std.specs.Io.KnownBytes.{Appends}
use Rattle.std.specs.Prelude.{◌≡◌, ◌≤◌, ◌*◌, ◌&&◌, ◌==◌, ℕ, Bool, List, [], ◌++◌, nat_le, not}
use Rattle.std.specs.Prelude.{Err, None, Ok, Option, Result, Some, codes, decimal, false, true}
use Rattle.std.specs.Prelude.{if◌then◌else◌, ◌<◌, ◌⊎◌, ◌≢◌}
use Rattle.std.specs.Prelude.{OnOk, is_some, length, min, replicate, slice_index_or, unwrap_or}
use Rattle.runs.specs.Commands.{extended_text, formatted_text, ran_text, stopped_text}
use Rattle.runs.specs.Migrating.{migrated_text}
use Rattle.runs.specs.declared.commands.fault.CommandFault.{CommandFault}
use Rattle.runs.specs.declared.commands.fault.CommandFault.TheVariants as on_disk
use Rattle.commitlog.specs.Records.{Holds}
use Rattle.commitlog.specs.declared.records.Entry.{Entry}
use Rattle.plain.specs.declared.whole.PlainPlan.{PlainPlan}
use Rattle.runs.specs.declared.rounds.Batch.{Batch as DriverBatch}
use Rattle.runs.specs.declared.rounds.Batch.TheVariants as driver
use Rattle.runs.specs.declared.rounds.Plan.{Plan}
use Rattle.runs.specs.declared.rounds.Schedule.{Schedule}
use Rattle.runs.specs.declared.rounds.Schedule.TheVariants.{InTurn, Overlapped, Together}
use Rattle.recovery.specs.Ends.{IsLater}
use Rattle.recovery.specs.Replay.{IsReplayedTo}
use Rattle.cli.specs.Command.{Says}
use Rattle.cli.specs.declared.command.BatchOption.{BatchOption}
use Rattle.cli.specs.declared.command.BatchOption.TheVariants.{Auto, Fixed}
use Rattle.cli.specs.declared.command.Command.{Command}
use Rattle.cli.specs.declared.command.Command.TheVariants.{Check, Cut, Draw, Extend, Grow, Info}
use Rattle.cli.specs.declared.command.Command.TheVariants.{Log, Migrate, Recover}
use Rattle.cli.specs.declared.command.Command.TheVariants.{New, Node, Reopen, Run, Seq, Show, Stats, Status, Verify}
use Rattle.cli.specs.declared.command.NewArgs.{NewArgs}
use Rattle.cli.specs.declared.command.RunArgs.{RunArgs}
use Rattle.upkeep.specs.Migrated.{IsMigrated}
use Rattle.upkeep.specs.Old.{IsOldLog}
use Rattle.model.specs.Meaning.{Meaning}
use Rattle.model.specs.Origins.{continued}
use Rattle.model.specs.World.{World}
use Rattle.model.specs.declared.origin.Origin.{Origin}
use Rattle.disk.specs.Disk.{DiskState}
use Rattle.eventkey.specs.Writing.{TakesBeginning}
use Rattle.texts.specs.ModelFile.{IsModelFile}
use Rattle.views.specs.Reading.{IsOn, IsSeen, IsSeenSoFar}
use Rattle.views.specs.Views.{Begins, Describes, Prints, Shows}
use Rattle.views.specs.declared.looks.Look.TheVariants as look
use Rattle.program.specs.Attempts.{HasCome, IsRanAsReported, IsRanOn, IsStoppedAsReported, IsStoppedOn}
use Rattle.program.specs.Attempts.{judges_all, nodes_of, trusts_nodes}
use Rattle.program.specs.Version.{version_text, AsksVersion}
use Rattle.disk_commands.specs.Disks.{IsGrown, IsNewSegment, IsReopenedText}
use Rattle.disk_commands.specs.Repairing.{IsCutText, IsRecoveredText}
use Rattle.disk_commands.specs.declared.fault.Fault.{Fault}
use Rattle.disk_commands.specs.declared.fault.Fault.TheVariants as fault

-- the program's fault for a fault of a command on a disk
abbrev pub of_command : CommandFault → Fault
of_command on_disk.NoMemory = fault.NoMemory
of_command (on_disk.Log f) = fault.Log f
of_command (on_disk.Recovery f) = fault.Recovery f
of_command (on_disk.Session f) = fault.Session f
of_command on_disk.Rounds = fault.Rounds
of_command (on_disk.Stopped time events) = fault.Stopped
of_command (on_disk.Migrate f) = fault.Migrate f
of_command on_disk.Output = fault.Output

-- ---- what the commands print, for some model file and some disk

abbrev pub IsFormatted : ℕ → List ℕ → Type 0
IsFormatted sectors text = text ≡ formatted_text sectors

-- what `new` prints, of a disk that goes on from another one or of an empty one
abbrev pub IsNewBehind : {M : Type 0} → (M → Meaning) → Describes M → {S : Type 0} → Option S → ℕ →
    List ℕ → Type 0
IsNewBehind meaning says None sectors = IsFormatted sectors
IsNewBehind meaning says (Some from) sectors = IsNewSegment meaning says sectors

abbrev pub IsNew : {M : Type 0} → (M → Meaning) → Describes M → NewArgs → List ℕ → Type 0
IsNew meaning says args = IsNewBehind meaning says args.from args.sectors

-- What each node handled, the time reached, and the number of committed events, of a run that began
-- on a disk of the model of a file. Its attempts are calls of a history on that disk, and on each next
-- one if it was archived. The last of them printed these numbers, and acknowledges the front that
-- has them. If its records were genuine, they are those of the sequential simulation up to the end.
pub record IsRan {M : Type 0} (meaning : M → Meaning) (says : Describes M)
    (nodes : ℕ) (text : List ℕ) : Type 0 where
  pub source : List ℕ
  pub model : M
  pub end : ℕ
  pub file : IsModelFile says source model end
  pub begun : DiskState
  pub origin : Option Origin
  pub now : DiskState
  pub come : HasCome false (meaning model) end begun origin now
  pub left : DiskState
  pub ran : IsRanOn (continued (meaning model) origin) end nodes now left text

-- What is committed after such a run that a file ended, before the end of its simulation. If the
-- records were genuine, it is the sequential simulation up to that time.
pub record IsStoppedText {M : Type 0} (meaning : M → Meaning) (says : Describes M)
    (text : List ℕ) : Type 0 where
  pub source : List ℕ
  pub model : M
  pub end : ℕ
  pub file : IsModelFile says source model end
  pub begun : DiskState
  pub origin : Option Origin
  pub now : DiskState
  pub come : HasCome false (meaning model) end begun origin now
  pub left : DiskState
  pub stopped : IsStoppedOn (continued (meaning model) origin) end now left text

-- The end that was in force on a disk, which may be a segment and whose image is replayed under it,
-- and the later end of the model file.
pub record IsExtendedText {M : Type 0} (meaning : M → Meaning) (says : Describes M)
    (text : List ℕ) : Type 0 where
  pub source : List ℕ
  pub model : M
  pub end : ℕ
  pub image : List (List ℕ)
  pub origin : Option Origin
  pub on : Meaning
  pub before : ℕ
  pub front : World
  pub file : IsModelFile says source model end
  pub is_on : IsOn (meaning model) image origin on
  pub rises : IsLater before end
  pub replayed : IsReplayedTo on before image front
  pub is : text ≡ extended_text before end

-- The time of a world, and the number of events of its log. The image of an old disk holds a log of
-- format 1 of the model, on which the model file's end is in force. Its widened records represent
-- that world under the header of the model with the end of the old header.
pub record IsMigratedText {M : Type 0} (meaning : M → Meaning) (says : Describes M)
    (text : List ℕ) : Type 0 where
  pub source : List ℕ
  pub model : M
  pub end : ℕ
  pub image : List (List ℕ)
  pub old_header : List ℕ
  pub olds : List Entry
  pub new_header : List ℕ
  pub news : List Entry
  pub front : World
  pub file : IsModelFile says source model end
  pub held : Holds old_header olds image
  pub old : IsOldLog (meaning model) end old_header olds
  pub migrated : IsMigrated (meaning model) old_header new_header olds news front
  pub is : text ≡ migrated_text front.time (length front.log)

-- What a run over node programs prints at its end if its commits are not judged, of the model of a
-- file, and after a file ended it.
pub record IsRanBehind {M : Type 0} (says : Describes M) (nodes : ℕ) (text : List ℕ) : Type 0 where
  pub source : List ℕ
  pub model : M
  pub end : ℕ
  pub file : IsModelFile says source model end
  pub ran : IsRanAsReported end nodes text

pub record IsStoppedBehind {M : Type 0} (says : Describes M) (text : List ℕ) : Type 0 where
  pub source : List ℕ
  pub model : M
  pub end : ℕ
  pub file : IsModelFile says source model end
  pub stopped : IsStoppedAsReported end text

-- What a run prints at its end, by whether it trusts node programs. If its commits are judged, that
-- is what a run over nodes in this program prints, whatever the node programs answer.
abbrev pub IsRanAs : {M : Type 0} → (M → Meaning) → Describes M → Bool → ℕ → List ℕ → Type 0
IsRanAs meaning says false nodes = IsRan meaning says nodes
IsRanAs meaning says true nodes = IsRanBehind says nodes

-- what it prints if a file ends it
abbrev pub IsStoppedAs : {M : Type 0} → (M → Meaning) → Describes M → Bool → List ℕ → Type 0
IsStoppedAs meaning says false = IsStoppedText meaning says
IsStoppedAs meaning says true = IsStoppedBehind says

-- the same by the arguments of `run`; without nodes there is no line of one
abbrev pub IsRanBy : {M : Type 0} → (M → Meaning) → Describes M → RunArgs → List ℕ → Type 0
IsRanBy meaning says args = IsRanAs meaning says (trusts_nodes args) (nodes_of args)

abbrev pub IsStoppedBy : {M : Type 0} → (M → Meaning) → Describes M → RunArgs → List ℕ → Type 0
IsStoppedBy meaning says args = IsStoppedAs meaning says (trusts_nodes args)

-- an attempt failed, and not because the writer refused
abbrev pub IsWithoutOutput : {T : Type 0} → Result T CommandFault → Type 0
IsWithoutOutput outcome = (f : CommandFault) × (outcome ≡ Err f) × f ≢ on_disk.Output

-- The outcome of a run that has ended well, and what is printed then: nothing more at the end of its
-- simulation; if a file ended it, what is committed.
abbrev pub IsEnded : {T : Type 0} → Result T CommandFault → Bool → Option (List ℕ) →
    Option (List ℕ) → Type 0
IsEnded (Ok x) stops old new = new ≡ old
IsEnded (Err (on_disk.Stopped time events)) true old new = Appends old new (stopped_text time events)
IsEnded (Err fault) stops old new = ⊥

-- The outcome of a run that has failed, or whose last line was not written completely: `same` says
-- that nothing more is printed, and `part` of which text a beginning is.
abbrev pub IsNotEnded : {T : Type 0} → Result T CommandFault → Bool → Type 0 →
    (List ℕ → Type 0) → Type 0
IsNotEnded (Ok x) stops same part = ⊥
IsNotEnded (Err (on_disk.Stopped time events)) true same part = part (stopped_text time events)
IsNotEnded (Err fault) stops same part = same

-- Whether a round costs little: the nodes are in this process, and at 128 messages each they report
-- no more in a round than a commit waits for.
abbrev pub are_rounds_cheap : ℕ → Option ℕ → Bool → Bool
are_rounds_cheap nodes commit_every apart =
    not apart && nat_le (nodes * 128) (unwrap_or commit_every 0)

-- the most messages that a node with an adjusting budget may handle at a turn
abbrev pub most_of : Bool → ℕ
most_of rounds_are_cheap = if rounds_are_cheap then 128 else 65536

-- how many messages a node may handle at a turn
abbrev pub driven_by : BatchOption → Bool → DriverBatch
driven_by (Fixed messages) rounds_are_cheap = driver.Fixed messages
driven_by Auto rounds_are_cheap = driver.Adjusting (most_of rounds_are_cheap) rounds_are_cheap

-- the order of posts and takes; the command refuses both options at once
abbrev pub schedule_of : Bool → Bool → Schedule
schedule_of together overlap =
    if together then Together else if overlap then Overlapped else InTurn

-- The plan of a run by the options of its command. A commit has room for 299,592 events, and takes
-- all those of a round at once, so one is due at 250,000 at the latest. Commits are judged if all
-- reported events of node programs are.
abbrev pub plan_of : RunArgs → Plan
plan_of args = record {
  nodes = args.nodes;
  batch = driven_by args.batch
      (are_rounds_cheap args.nodes args.commit_every (is_some args.sockets));
  rounds = args.rounds;
  schedule = schedule_of args.together args.overlap;
  checkpoint_every = unwrap_or args.checkpoint 0;
  seals = args.seal;
  commit_every = min (unwrap_or args.commit_every 0) 250000;
  judged = is_some args.sockets && judges_all args.judge;
}

-- The plan of a run without nodes by the options of its command: at most `rounds` commits, one
-- after each 4,096 events if no number is given.
abbrev pub plain_plan_of : RunArgs → PlainPlan
plain_plan_of args = record {
  commit_every = min (unwrap_or args.commit_every 4096) 250000;
  checkpoint_every = unwrap_or args.checkpoint 0;
  seals = args.seal;
  commits = args.rounds;
}

-- what `run` prints
abbrev pub IsRunOutput : {M : Type 0} → (M → Meaning) → Describes M → RunArgs → List ℕ → Type 0
IsRunOutput meaning says args text = IsRanBy meaning says args text
    ⊎ ((is_some args.stop_file ≡ true) × IsStoppedBy meaning says args text)

-- a text that a command prints
abbrev pub IsOutput : {M : Type 0} → (M → Meaning) → Describes M → Shows M → Command → List ℕ →
    Type 0
IsOutput meaning says shows (New args) text = IsNew meaning says args text
IsOutput meaning says shows (Run args) text = IsRunOutput meaning says args text
IsOutput meaning says shows (Extend args) text = IsExtendedText meaning says text
IsOutput meaning says shows (Grow args) text = IsGrown args.sectors text
IsOutput meaning says shows (Migrate args) text = IsMigratedText meaning says text
IsOutput meaning says shows (Reopen args) text = IsReopenedText meaning says text
IsOutput meaning says shows (Cut args) text = IsCutText meaning says text
IsOutput meaning says shows (Recover args) text = IsRecoveredText meaning says text
IsOutput meaning says shows (Status args) text = IsSeen meaning says shows (look.Status args) text
IsOutput meaning says shows (Info args) text = IsSeen meaning says shows (look.Info args) text
IsOutput meaning says shows (Verify args) text = IsSeen meaning says shows (look.Verify args) text
IsOutput meaning says shows (Log args) text = IsSeen meaning says shows (look.Log args) text
IsOutput meaning says shows (Show args) text = IsSeen meaning says shows (look.Show args) text
IsOutput meaning says shows (Stats args) text = IsSeen meaning says shows (look.Stats args) text
IsOutput meaning says shows (Draw args) text = IsSeen meaning says shows (look.Draw args) text
IsOutput meaning says shows (Seq args) text = IsSeen meaning says shows (look.Seq args) text
IsOutput meaning says shows (Check args) text = IsSeen meaning says shows (look.Check args) text
IsOutput meaning says shows (Node args) text = text ≡ []

-- a text of which a command prints a beginning if it fails: of `log` also that of the first records of
-- a disk, of `seq` also that of a simulation which does not come to its end
abbrev pub IsOutputSoFar : {M : Type 0} → (M → Meaning) → Describes M → Shows M → Command → List ℕ →
    Type 0
IsOutputSoFar meaning says shows (Log args) text =
    IsSeenSoFar meaning says shows (look.Log args) text
IsOutputSoFar meaning says shows (Seq args) text =
    IsSeenSoFar meaning says shows (look.Seq args) text
IsOutputSoFar meaning says shows command text = IsOutput meaning says shows command text

-- The words give a command of the program of this name, and the writer has taken a text that the
-- command prints.
abbrev pub PrintsSaid
    : List ℕ → (Command → List ℕ → Type 0) → List (List ℕ) → Option (List ℕ) → Option (List ℕ) → Type 0
PrintsSaid name is words old new =
    (command : Command) × Says name words command × Prints (is command) old new

-- The writer has taken what the program answers to the words: the text of their command, or the
-- version, if they ask for it.
abbrev pub IsAnswered
    : List ℕ → (Command → List ℕ → Type 0) → List (List ℕ) → Option (List ℕ) → Option (List ℕ) → Type 0
IsAnswered name is words old new = PrintsSaid name is words old new
    ⊎ (AsksVersion name words × Appends old new (version_text name))

-- the writer has taken a beginning of the text of a command
abbrev pub BeginsSaid
    : List ℕ → (Command → List ℕ → Type 0) → List (List ℕ) → Option (List ℕ) → Option (List ℕ) → Type 0
BeginsSaid name is words old new =
    (command : Command) × Says name words command × Begins (is command) old new

-- the same, or a beginning of the version, if the words ask for it
abbrev pub BeginsAnswer
    : List ℕ → (Command → List ℕ → Type 0) → List (List ℕ) → Option (List ℕ) → Option (List ℕ) → Type 0
BeginsAnswer name is words old new = BeginsSaid name is words old new
    ⊎ (AsksVersion name words × TakesBeginning old new (version_text name))
