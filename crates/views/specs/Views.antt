-- What the read-only commands print.
use Rattle.std.specs.Io.KnownBytes.{Appends}
use Rattle.std.specs.Prelude.{◌≡◌, ◌^◌, ◌-◌, ◌&&◌, ℕ, Bool, true, false, List}
use Rattle.std.specs.Prelude.{◌++◌, None, Option, Some, codes, decimal, filter, map, if◌then◌else◌}
use Rattle.std.specs.Prelude.{◌⊎◌, [], is_none, max, unwrap_or}
use Rattle.cli.specs.declared.command.Format.{Format}
use Rattle.cli.specs.declared.command.Format.TheVariants as format
use Rattle.disk.specs.declared.file.FileFault.{FileFault}
use Rattle.disk.specs.declared.file.FileFault.TheVariants as opening
use Rattle.eventkey.specs.Message.{Message}
use Rattle.eventkey.specs.Writing.{TakesBeginning}
use Rattle.upkeep.specs.declared.inspection.fault.InspectionFault.{InspectionFault}
use Rattle.upkeep.specs.declared.inspection.fault.InspectionFault.TheVariants as inspecting
use Rattle.model.specs.Meaning.{Meaning}
use Rattle.model.specs.Runner.{IsRun}
use Rattle.model.specs.World.{IsUpto, World, opening}
use Rattle.model.specs.declared.runner.WorldParts.{WorldParts}
use Rattle.pictures.specs.Chosen.{is_chosen}
use Rattle.pictures.specs.Course.{course_text}
use Rattle.pictures.specs.Drawing.{drawing_text}
use Rattle.pictures.specs.Figures.{AreFigures}
use Rattle.pictures.specs.Load.{load_text}
use Rattle.pictures.specs.Run.{IsPartBefore, IsRunOf, Run as PastRun}
use Rattle.pictures.specs.Stepping.{with_log}
use Rattle.pictures.specs.Tables.{csv_text, stats_text}
use Rattle.pictures.specs.declared.chosen.Choice.{Choice}
use Rattle.pictures.specs.declared.counted.Figures.{Figures}
use Rattle.pictures.specs.declared.drawn.View.{View}
use Rattle.pictures.specs.declared.turns.NotRead.{NotRead}
use Rattle.pictures.specs.declared.turns.NotRead.TheVariants as reading
use Rattle.pictures.specs.declared.turns.Row.{Row}
use Rattle.recovery.specs.Replay.{IsReplayedTo}
use Rattle.std.specs.Str.{IsUtf8}
use Rattle.texts.specs.ModelFile.{IsModelFile}
use Rattle.texts.specs.Settings.{IsTextWith}
use Rattle.texts.specs.Text.{log_text, world_text}
use Rattle.toml.specs.Parse.{parse_document}
use Rattle.texts.specs.declared.model_file.ModelFault.{ModelFault}
use Rattle.texts.specs.declared.model_file.ModelFault.TheVariants as file
use Rattle.toml.specs.Data.{Members}
use Rattle.upkeep.specs.declared.verifying.Verified.{Verified}
use Rattle.upkeep.specs.declared.verifying.VerifyFault.{VerifyFault}
use Rattle.upkeep.specs.declared.verifying.VerifyFault.TheVariants as verifying
use Rattle.views.specs.Beginnings.{IsWorldOf, IsWorldSoFar}
use Rattle.views.specs.Tables.{IsTable}
use Rattle.views.specs.declared.fault.ViewFault.{ViewFault}
use Rattle.views.specs.declared.fault.ViewFault.TheVariants.{BadModel, BadTrace, NoMemory}
use Rattle.views.specs.declared.fault.ViewFault.TheVariants as fault

-- For a kind of model: how a table describes a model, and what `check` prints of one.

abbrev pub Describes : Type 0 → Type 1
Describes M = Members → M → ℕ → Type 0

abbrev pub Shows : Type 0 → Type 0
Shows M = M → ℕ → List ℕ

-- ---- what a writer has taken

-- the writer has taken one of these texts, and nothing else
abbrev pub Prints : (List ℕ → Type 0) → Option (List ℕ) → Option (List ℕ) → Type 0
Prints is old new = (text : List ℕ) × is text × Appends old new text

-- the writer has taken a beginning of one of these texts
abbrev pub Begins : (List ℕ → Type 0) → Option (List ℕ) → Option (List ℕ) → Type 0
Begins is old new = (text : List ℕ) × is text × TakesBeginning old new text

-- ---- faults

-- this crate's fault for a fault of a model file
abbrev pub of_model : ModelFault → ViewFault
of_model (file.BadModel mistake) = BadModel
of_model file.NoMemory = NoMemory

-- for a fault of a trace
abbrev pub of_trace : NotRead → ViewFault
of_trace reading.BadTrace = BadTrace
of_trace reading.NoMemory = NoMemory

-- for a fault of the inspection of a disk
abbrev pub of_inspection : InspectionFault → ViewFault
of_inspection (inspecting.Log f) = fault.Log f
of_inspection (inspecting.Recovery f) = fault.Recovery f
of_inspection (inspecting.Record number f) = fault.Record number f

-- for a fault of the verification of a disk
abbrev pub of_verification : VerifyFault → ViewFault
of_verification (verifying.Log f) = fault.Log f
of_verification (verifying.Recovery f) = fault.Recovery f
of_verification (verifying.Record number f) = fault.Record number f

-- for a fault of a disk's file
abbrev pub of_file : FileFault → ViewFault
of_file opening.File = fault.File
of_file opening.NoMemory = NoMemory

-- ---- what the commands print, for some model file and some disk

-- the log, then the world
abbrev pub run_text : World → List ℕ
run_text w = log_text w.log ++ world_text w

-- the world in these parts
abbrev pub world_in : WorldParts → World
world_in parts = record {
  time = parts.time;
  states = map (λ s. s.items) parts.states.items;
  numbers = parts.numbers.items;
  pending = parts.pending.items;
  log = parts.log.items;
}

-- The writer has taken the run of a model, its sequential simulation up to its end, and nothing
-- else.
pub record PrintsRun {M : Type 0} (meaning : M → Meaning) (says : Describes M)
    (text : List ℕ) (old new : Option (List ℕ)) : Type 0 where
  pub model : M
  pub end : ℕ
  pub world : World
  pub file : IsModelFile says text model end
  pub upto : IsUpto (meaning model) end end world
  pub printed : Appends old new (run_text world)

-- What is printed of a simulation so far: the lines of the events that it handles first, or of all
-- of them and then its world at the end.
abbrev pub IsTextSoFar : Meaning → ℕ → List ℕ → Type 0
IsTextSoFar m end text =
    ((world : World) × IsRun m end (opening m) world × (text ≡ log_text world.log))
    ⊎ ((world : World) × IsUpto m end end world × (text ≡ run_text world))

-- The writer has taken a beginning of the run of a model, which need not come to its end.
pub record PrintsBeginning {M : Type 0} (meaning : M → Meaning) (says : Describes M)
    (text : List ℕ) (old new : Option (List ℕ)) : Type 0 where
  pub model : M
  pub end : ℕ
  pub file : IsModelFile says text model end
  pub begun : Begins (IsTextSoFar (meaning model) end) old new

-- The writer has taken the lines of the events that the simulation of a model handles first, and
-- nothing else.
pub record PrintsLog {M : Type 0} (meaning : M → Meaning) (says : Describes M)
    (text : List ℕ) (old new : Option (List ℕ)) : Type 0 where
  pub model : M
  pub end : ℕ
  pub world : World
  pub file : IsModelFile says text model end
  pub run : IsRun (meaning model) end (opening (meaning model)) world
  pub printed : Appends old new (log_text world.log)

-- The text of the world to which the image of a disk is replayed, which may be a segment.
pub record IsCommitted {M : Type 0} (meaning : M → Meaning) (says : Describes M)
    (shown : World → List ℕ) (text : List ℕ) : Type 0 where
  pub source : List ℕ
  pub model : M
  pub end : ℕ
  pub image : List (List ℕ)
  pub world : World
  pub file : IsModelFile says source model end
  pub of_disk : IsWorldOf (meaning model) end image world
  pub is : text ≡ shown world

-- The text of the world to which the first records of the image of a disk are replayed.
pub record IsCommittedSoFar {M : Type 0} (meaning : M → Meaning) (says : Describes M)
    (shown : World → List ℕ) (text : List ℕ) : Type 0 where
  pub source : List ℕ
  pub model : M
  pub end : ℕ
  pub image : List (List ℕ)
  pub world : World
  pub file : IsModelFile says source model end
  pub of_disk : IsWorldSoFar (meaning model) end image world
  pub is : text ≡ shown world

-- the world to which the image of some disk is replayed, of the model of some file
pub record IsWorldOn {M : Type 0} (meaning : M → Meaning) (says : Describes M) (model : M)
    (world : World) : Type 0 where
  pub source : List ℕ
  pub end : ℕ
  pub image : List (List ℕ)
  pub file : IsModelFile says source model end
  pub of_disk : IsWorldOf (meaning model) end image world

-- the same of these parts of a world, of which the log is not known
abbrev pub HasWorldOn : {M : Type 0} → (M → Meaning) → Describes M → M → WorldParts → Type 0
HasWorldOn meaning says model parts =
    (log : List Message) × IsWorldOn meaning says model (with_log log (world_in parts))

-- which events are asked for: from a time on, before a time, and of one process
abbrev pub choice_of : Option ℕ → Option ℕ → Option ℕ → Choice
choice_of from to process =
    record { from = unwrap_or from 0; to = unwrap_or to (2 ^ 64 - 1); process = process }

-- those events of a log; all of them if no option is given
abbrev pub log_part : Option ℕ → Option ℕ → Option ℕ → List Message → List Message
log_part from to process log = if is_none from && (is_none to && is_none process) then log
    else filter (is_chosen (choice_of from to process)) log

-- the requested part of the log of the world to which a disk is replayed
abbrev pub IsLogged : {M : Type 0} → (M → Meaning) → Describes M → Option ℕ → Option ℕ → Option ℕ
    → List ℕ → Type 0
IsLogged meaning says from to process =
    IsCommitted meaning says (λ w. log_text (log_part from to process w.log))

-- The same of the world to which the first records of a disk are replayed. `log` prints the events of
-- each record before it reads the next one, so it has printed a beginning of this if it is refused.
abbrev pub IsLoggedSoFar : {M : Type 0} → (M → Meaning) → Describes M → Option ℕ → Option ℕ
    → Option ℕ → List ℕ → Type 0
IsLoggedSoFar meaning says from to process =
    IsCommittedSoFar meaning says (λ w. log_text (log_part from to process w.log))

-- the messages that are not handled, as events of a log are written
abbrev pub IsPending : {M : Type 0} → (M → Meaning) → Describes M → List ℕ → Type 0
IsPending meaning says = IsCommitted meaning says (λ w. log_text w.pending)

-- the world
abbrev pub IsShown : {M : Type 0} → (M → Meaning) → Describes M → List ℕ → Type 0
IsShown meaning says = IsCommitted meaning says world_text

-- the time and the number of events of a world
abbrev pub verified_text : Verified → List ℕ
verified_text seen = (codes "verified: committed " ++ decimal seen.time)
    ++ (codes " events " ++ decimal seen.events) ++ codes "\n"

-- The time up to which a run is considered: its end, or the time of a world to which the image of a
-- disk is replayed.
abbrev pub IsLookedTo : Meaning → ℕ → {S : Type 0} → Option S → ℕ → Type 0
IsLookedTo m end None to = to ≡ end
IsLookedTo m end (Some disk) to =
    (image : List (List ℕ)) × (world : World) × IsReplayedTo m end image world × (to ≡ world.time)

-- the sequential simulation of the model of a file, up to that time
pub record IsTraced {M S : Type 0} (meaning : M → Meaning) (says : Describes M)
    (disk : Option S) (run : PastRun) : Type 0 where
  pub source : List ℕ
  pub model : M
  pub end : ℕ
  pub to : ℕ
  pub file : IsModelFile says source model end
  pub looked : IsLookedTo (meaning model) end disk to
  pub run_is : IsRunOf (meaning model) end to run

-- of that simulation, up to that time, the part before a tick
pub record IsTracedBefore {M S : Type 0} (meaning : M → Meaning) (says : Describes M)
    (disk : Option S) (before : ℕ) (run : PastRun) : Type 0 where
  pub source : List ℕ
  pub model : M
  pub end : ℕ
  pub to : ℕ
  pub file : IsModelFile says source model end
  pub looked : IsLookedTo (meaning model) end disk to
  pub part : IsPartBefore (meaning model) end to before run

-- figures as comma-separated values, or as a table
abbrev pub figures_text : Bool → Figures → List ℕ
figures_text true figures = csv_text figures
figures_text false figures = stats_text figures

-- the figures of a run
pub record IsStats {M S : Type 0} (meaning : M → Meaning) (says : Describes M) (disk : Option S)
    (csv : Bool) (text : List ℕ) : Type 0 where
  pub run : PastRun
  pub figures : Figures
  pub traced : IsTraced meaning says disk run
  pub figures_are : AreFigures run figures
  pub is : text ≡ figures_text csv figures

-- the requested view; without bounds it has the whole run
abbrev pub view_of : Option ℕ → Option ℕ → Option (ℕ × ℕ) → View
view_of from to processes = record {
  from = unwrap_or from 0;
  to = to;
  first = (unwrap_or processes (0, 2 ^ 32 - 1)).0;
  last = (unwrap_or processes (0, 2 ^ 32 - 1)).1;
}

-- the load by slices of time, or the space-time diagram
abbrev pub picture_text : Bool → PastRun → View → List ℕ
picture_text true run view = load_text run view
picture_text false run view = drawing_text run view

-- the tick before which a picture needs to know a run: where the picture ends, if that is asked for
abbrev pub needed_to : Option ℕ → Option ℕ → ℕ
needed_to from None = 2 ^ 64 - 1
needed_to from (Some to) = max to (unwrap_or from 0)

-- The picture of a run, of which what comes after the picture's end is not simulated.
pub record IsDrawn {M S : Type 0} (meaning : M → Meaning) (says : Describes M) (disk : Option S)
    (load : Bool) (from to : Option ℕ) (processes : Option (ℕ × ℕ)) (text : List ℕ) : Type 0 where
  pub run : PastRun
  pub traced : IsTracedBefore meaning says disk (needed_to from to) run
  pub is : text ≡ picture_text load run (view_of from to processes)

-- the picture of the course that some rows of a trace show
abbrev pub IsCourse : List ℕ → Type 0
IsCourse text = (rows : List Row) × (text ≡ course_text rows)

-- the log and the world of a sequential simulation up to its end
pub record IsWholeSimulation {M : Type 0} (meaning : M → Meaning) (says : Describes M)
    (text : List ℕ) : Type 0 where
  pub source : List ℕ
  pub model : M
  pub end : ℕ
  pub world : World
  pub file : IsModelFile says source model end
  pub upto : IsUpto (meaning model) end end world
  pub is : text ≡ run_text world

-- a text of which `seq` prints a beginning if it is refused
pub record IsSimulationSoFar {M : Type 0} (meaning : M → Meaning) (says : Describes M)
    (text : List ℕ) : Type 0 where
  pub source : List ℕ
  pub model : M
  pub end : ℕ
  pub file : IsModelFile says source model end
  pub is : IsTextSoFar (meaning model) end text

-- what `seq` prints in a format
abbrev pub IsSimulationBy : {M : Type 0} → (M → Meaning) → Describes M → Format → List ℕ → Type 0
IsSimulationBy meaning says format.Text = IsWholeSimulation meaning says
IsSimulationBy meaning says format.Csv = IsTable format.Csv
IsSimulationBy meaning says format.Json = IsTable format.Json

-- and of which text a beginning if it is refused
abbrev pub IsBegunBy : {M : Type 0} → (M → Meaning) → Describes M → Format → List ℕ → Type 0
IsBegunBy meaning says format.Text = IsSimulationSoFar meaning says
IsBegunBy meaning says format.Csv = IsTable format.Csv
IsBegunBy meaning says format.Json = IsTable format.Json

-- `ok`, then the values of a model file
abbrev pub checked_text : List ℕ → List ℕ
checked_text values = codes "ok\n" ++ values

-- the text for the model file that the source is
abbrev pub IsChecked : {M : Type 0} → Describes M → Shows M → List ℕ → List ℕ → Type 0
IsChecked {M} says shows source text = (model : M) × (end : ℕ) × IsModelFile says source model end
    × (text ≡ checked_text (shows model end))

-- the text of a model file in which these values are set: it is as it was if none are, or if it is
-- not TOML, and then none of a model file
abbrev pub IsSetIn : List (List ℕ × List ℕ) → List ℕ → List ℕ → Type 0
IsSetIn settings text new = IsTextWith settings text new ⊎ ((new ≡ text)
    × ((settings ≡ []) ⊎ (¬ (IsUtf8 text) ⊎ (parse_document text ≡ None))))

-- the text for some file
abbrev pub IsSomeChecked : {M : Type 0} → Describes M → Shows M → List ℕ → Type 0
IsSomeChecked says shows text = (source : List ℕ) × IsChecked says shows source text
