-- What the read-only commands print by their arguments, of a disk that may be a segment.
use Rattle.std.specs.Prelude.{◌≡◌, ℕ, Bool, List, [], ◌∷◌, ◌++◌, None, Option, Some, codes, decimal}
use Rattle.std.specs.Prelude.{false, length, max, true}
use Rattle.std.specs.Option.{option_map}
use Rattle.std.specs.Str.{IsUtf8}
use Rattle.segments.specs.Archiving.{IsBegunAt, IsOriginOn, events_before}
use Rattle.cli.specs.declared.command.DrawArgs.{DrawArgs}
use Rattle.cli.specs.declared.command.Format.{Format}
use Rattle.cli.specs.declared.command.Format.TheVariants as format
use Rattle.cli.specs.declared.command.LogArgs.{LogArgs}
use Rattle.cli.specs.declared.command.ShowArgs.{ShowArgs}
use Rattle.cli.specs.declared.command.StatsArgs.{StatsArgs}
use Rattle.cli.specs.declared.command.VerifyArgs.{VerifyArgs}
use Rattle.upkeep.specs.Inspected.{IsInspected}
use Rattle.upkeep.specs.Text.{inspection_text}
use Rattle.upkeep.specs.declared.inspection.inspecting.Inspection.{Inspection}
use Rattle.model.specs.Meaning.{Meaning}
use Rattle.model.specs.Origins.{as_origin}
use Rattle.model.specs.World.{World}
use Rattle.model.specs.declared.origin.Origin.{Origin}
use Rattle.texts.specs.ModelFile.{IsModelFile}
use Rattle.upkeep.specs.Verified.{IsOfWorld}
use Rattle.upkeep.specs.declared.verifying.Verified.{Verified}
pub use Rattle.views.specs.Beginnings.{BeginsInRow, BeginsWith, IsFrontOn, IsOn, IsOnRow}
use Rattle.views.specs.Tables.{Field, IsBoth, IsFields, IsObject, IsTable, field, row_table, whole}
use Rattle.views.specs.Tables.{whole_if}
use Rattle.views.specs.Views.{Describes, IsCourse, IsDrawn, IsLogged, IsLoggedSoFar, IsPending}
use Rattle.views.specs.Views.{IsBegunBy, IsShown, IsSimulationBy, IsSomeChecked, IsStats, Shows}
use Rattle.views.specs.Views.{verified_text}
use Rattle.views.specs.declared.looks.Look.{Look}
use Rattle.views.specs.declared.looks.Look.TheVariants.{Check, Draw, Info, Log, Seq, Show, Stats}
use Rattle.views.specs.declared.looks.Look.TheVariants.{Status, Verify}

-- what `draw` prints: the picture of a run, or the course in a trace
abbrev pub IsPicture : {M : Type 0} → (M → Meaning) → Describes M → DrawArgs → {S : Type 0} →
    Option S → List ℕ → Type 0
IsPicture meaning says args None text =
    IsDrawn meaning says args.of.disk args.load args.from args.to args.processes text
IsPicture meaning says args (Some trace) text = IsCourse text

-- what `draw` prints: a histogram, which is some UTF-8, or a picture
abbrev pub IsPictureOf : {M : Type 0} → (M → Meaning) → Describes M → DrawArgs → {S : Type 0} →
    Option S → List ℕ → Type 0
IsPictureOf meaning says args (Some word) = IsUtf8
IsPictureOf meaning says args None = IsPicture meaning says args args.trace

-- what `draw` prints: a value change dump, which is some UTF-8, or one of these
abbrev pub IsDrawnBy : {M : Type 0} → (M → Meaning) → Describes M → Bool → DrawArgs → List ℕ →
    Type 0
IsDrawnBy meaning says true args = IsUtf8
IsDrawnBy meaning says false args = IsPictureOf meaning says args args.histogram

-- The time from which a segment goes on and the number of events before it, for its origin.
pub record IsBegun (lps : ℕ) (image : List (List ℕ)) (o : Origin) (time events : ℕ) : Type 0 where
  pub begins : IsOriginOn lps image (Some o)
  pub at : IsBegunAt image time
  pub events_are : events ≡ events_before o.numbers (length o.pending)

-- the lines of `status` on a segment
abbrev pub origin_text : ℕ → ℕ → List ℕ
origin_text time events =
    (codes "origin " ++ decimal time) ++ (codes "\nevents before " ++ decimal events) ++ codes "\n"

-- none of them without an origin
abbrev pub lines_text : Option (ℕ × ℕ) → List ℕ
lines_text None = []
lines_text (Some (time, events)) = origin_text time events

-- the origin of a segment as `status` shows it; none of a disk that begins as its model does
abbrev pub IsShownOrigin : ℕ → List (List ℕ) → Option Origin → Option (ℕ × ℕ) → Type 0
IsShownOrigin lps image None lines = lines ≡ None
IsShownOrigin lps image (Some o) lines = (time : ℕ) × (events : ℕ) × IsBegun lps image o time events
    × (lines ≡ Some (time, events))

-- An inspection of a segment with no time before its origin: the origin is its first record, a
-- checkpoint at time 0.
abbrev pub since_origin : Option (ℕ × ℕ) → Inspection → Inspection
since_origin None shown = shown
since_origin (Some (time, events)) shown = record {
  time = shown.time;
  end = shown.end;
  events = shown.events;
  records = shown.records;
  checkpoints = shown.checkpoints;
  last_checkpoint = option_map (max time) shown.last_checkpoint;
  ends = shown.ends;
  seals = shown.seals;
  sectors = shown.sectors;
  used = shown.used;
  pace = record {
    commits = shown.pace.commits;
    sectors = shown.pace.sectors;
    from = max time shown.pace.from;
  };
}

-- The inspection of a disk by the simulation that is on it, and of its origin if it has one. The image
-- is what was read of the file: sectors that no figure needs may be missing, and are zeros in it.
pub record IsFoundOn (m : Meaning) (end : ℕ) (found : Inspection)
    (lines : Option (ℕ × ℕ)) : Type 0 where
  pub image : List (List ℕ)
  pub origin : Option Origin
  pub on : Meaning
  pub is_on : IsOn m image origin on
  pub inspected : IsInspected on end image found
  pub lines_are : IsShownOrigin m.lps image origin lines

-- The text of the inspection of a disk, and of its origin if it has one.
pub record IsStatusText {M : Type 0} (meaning : M → Meaning) (says : Describes M)
    (text : List ℕ) : Type 0 where
  pub source : List ℕ
  pub model : M
  pub end : ℕ
  pub found_there : Inspection
  pub lines : Option (ℕ × ℕ)
  pub file : IsModelFile says source model end
  pub found : IsFoundOn (meaning model) end found_there lines
  pub is : text ≡ inspection_text (since_origin lines found_there) ++ lines_text lines

-- the same as a row of a table
abbrev pub status_row : Option (ℕ × ℕ) → Inspection → List Field
status_row lines shown = field (codes "time") (whole shown.time)
    ∷ field (codes "end") (whole shown.end)
    ∷ field (codes "events") (whole shown.events)
    ∷ field (codes "records") (whole shown.records)
    ∷ field (codes "checkpoints") (whole shown.checkpoints)
    ∷ field (codes "last_checkpoint") (whole_if shown.last_checkpoint)
    ∷ field (codes "ends") (whole shown.ends)
    ∷ field (codes "seals") (whole shown.seals)
    ∷ field (codes "used") (whole shown.used)
    ∷ field (codes "sectors") (whole shown.sectors)
    ∷ field (codes "pace_commits") (whole shown.pace.commits)
    ∷ field (codes "pace_sectors") (whole shown.pace.sectors)
    ∷ field (codes "pace_from") (whole shown.pace.from)
    ∷ field (codes "origin") (whole_if (option_map (λ x. x.0) lines))
    ∷ field (codes "events_before") (whole_if (option_map (λ x. x.1) lines))
    ∷ []

-- The table with that row.
pub record IsStatusTable {M : Type 0} (meaning : M → Meaning) (says : Describes M) (f : Format)
    (text : List ℕ) : Type 0 where
  pub source : List ℕ
  pub model : M
  pub end : ℕ
  pub found_there : Inspection
  pub lines : Option (ℕ × ℕ)
  pub file : IsModelFile says source model end
  pub found : IsFoundOn (meaning model) end found_there lines
  pub is : text ≡ row_table f (status_row lines (since_origin lines found_there))

-- what `status` prints in a format
abbrev pub IsStatusBy : {M : Type 0} → (M → Meaning) → Describes M → Format → List ℕ → Type 0
IsStatusBy meaning says format.Text = IsStatusText meaning says
IsStatusBy meaning says format.Csv = IsStatusTable meaning says format.Csv
IsStatusBy meaning says format.Json = IsStatusTable meaning says format.Json

-- the line of `verify` on a segment whose origin is believed, and on one that goes on from another
-- disk
abbrev pub believed_text : ℕ → List ℕ
believed_text time = (codes "from the origin at " ++ decimal time) ++ codes "\n"

-- nothing without an origin
abbrev pub believed_line : Option ℕ → List ℕ
believed_line None = []
believed_line (Some time) = believed_text time

-- The line of a disk whose origin is believed, by which times are those from which it goes on.
abbrev pub IsBelieved : (ℕ → Type 0) → Option Origin → List ℕ → Type 0
IsBelieved At None line = line ≡ []
IsBelieved At (Some o) line = (time : ℕ) × At time × (line ≡ believed_text time)

abbrev pub followed_text : ℕ → ℕ → List ℕ
followed_text time events = (codes "goes on from " ++ decimal time)
    ++ (codes " events " ++ decimal events) ++ codes "\n"

-- The image of a segment goes on from the world to which the image of the disk before it is
-- replayed.
pub record GoesOn (m : Meaning) (end : ℕ) (image : List (List ℕ)) (o : Origin) (time events : ℕ) :
    Type 0 where
  pub world : World
  pub front : IsFrontOn m end world
  pub same : as_origin world ≡ o
  pub later : time ≡ world.time
  pub begun : IsBegun m.lps image o time events

-- the line by what is known of the origin: its time, and the events before it if it is not believed
abbrev pub line_text : Option (ℕ × Option ℕ) → List ℕ
line_text None = []
line_text (Some (time, None)) = believed_text time
line_text (Some (time, Some events)) = followed_text time events

-- the line after those of a verified disk
abbrev pub IsLineBehind : Meaning → ℕ → {S : Type 0} → Option S → List (List ℕ) → Option Origin →
    List ℕ → Type 0
IsLineBehind m end None image None line = line ≡ []
IsLineBehind m end None image (Some o) line =
    (time : ℕ) × (events : ℕ) × IsBegun m.lps image o time events × (line ≡ believed_text time)
IsLineBehind m end (Some before) image None line = ⊥
IsLineBehind m end (Some before) image (Some o) line = (time : ℕ) × (events : ℕ)
    × GoesOn m end image o time events × (line ≡ followed_text time events)

-- The text of the world that the image of a disk represents, and of its origin. A checkpoint in it,
-- but for the origin, holds what the records before it reach.
pub record IsVerifiedAs {M S : Type 0} (meaning : M → Meaning) (says : Describes M)
    (after : Option S) (text : List ℕ) : Type 0 where
  pub source : List ℕ
  pub model : M
  pub end : ℕ
  pub image : List (List ℕ)
  pub origin : Option Origin
  pub on : Meaning
  pub seen : Verified
  pub line : List ℕ
  pub file : IsModelFile says source model end
  pub is_on : IsOn (meaning model) image origin on
  pub of_world : IsOfWorld on end image seen
  pub line_is : IsLineBehind (meaning model) end after image origin line
  pub is : text ≡ verified_text seen ++ line

abbrev pub IsVerifiedBy : {M : Type 0} → (M → Meaning) → Describes M → VerifyArgs → List ℕ → Type 0
IsVerifiedBy meaning says args = IsVerifiedAs meaning says args.after

-- what `log` and `show` print as text; with the model's names it is some UTF-8
abbrev pub IsLoggedAs : {M : Type 0} → (M → Meaning) → Describes M → Bool → LogArgs → List ℕ → Type 0
IsLoggedAs meaning says true args = IsUtf8
IsLoggedAs meaning says false args = IsLogged meaning says args.from args.to args.process

-- the text of which `log` prints a beginning if it is refused; with the model's names some UTF-8
abbrev pub IsLogBegunAs : {M : Type 0} → (M → Meaning) → Describes M → Bool → LogArgs → List ℕ →
    Type 0
IsLogBegunAs meaning says true args = IsUtf8
IsLogBegunAs meaning says false args = IsLoggedSoFar meaning says args.from args.to args.process

abbrev pub IsShownAs : {M : Type 0} → (M → Meaning) → Describes M → Bool → Bool → List ℕ → Type 0
IsShownAs meaning says true pending = IsUtf8
IsShownAs meaning says false true = IsPending meaning says
IsShownAs meaning says false false = IsShown meaning says

-- what `stats` prints: the figures, and if they are asked for those of named words, some UTF-8
abbrev pub IsStatsWith : {M S : Type 0} → (M → Meaning) → Describes M → Bool → Option S → Bool →
    List ℕ → Type 0
IsStatsWith meaning says true disk csv = IsBoth (IsStats meaning says disk csv) IsUtf8
IsStatsWith meaning says false disk csv = IsStats meaning says disk csv

-- and in a format
abbrev pub IsLoggedBy : {M : Type 0} → (M → Meaning) → Describes M → Format → LogArgs → List ℕ →
    Type 0
IsLoggedBy meaning says format.Text args = IsLoggedAs meaning says args.names args
IsLoggedBy meaning says format.Csv args = IsTable format.Csv
IsLoggedBy meaning says format.Json args = IsTable format.Json

-- the text in a format of which `log` prints a beginning if it is refused
abbrev pub IsLogBegunBy : {M : Type 0} → (M → Meaning) → Describes M → Format → LogArgs → List ℕ →
    Type 0
IsLogBegunBy meaning says format.Text args = IsLogBegunAs meaning says args.names args
IsLogBegunBy meaning says format.Csv args = IsTable format.Csv
IsLogBegunBy meaning says format.Json args = IsTable format.Json

abbrev pub IsShownBy : {M : Type 0} → (M → Meaning) → Describes M → Format → ShowArgs → List ℕ →
    Type 0
IsShownBy meaning says format.Text args = IsShownAs meaning says args.names args.pending
IsShownBy meaning says format.Csv args = IsTable format.Csv
IsShownBy meaning says format.Json args = IsTable format.Json

abbrev pub IsStatsIn : {M : Type 0} → (M → Meaning) → Describes M → Format → StatsArgs → List ℕ →
    Type 0
IsStatsIn meaning says format.Text args = IsStatsWith meaning says args.names args.of.disk false
IsStatsIn meaning says format.Csv args = IsStatsWith meaning says args.names args.of.disk true
IsStatsIn meaning says format.Json args = IsObject args.names

-- what `stats` prints: one table, or the figures of the run
abbrev pub IsStatsBy : {M T : Type 0} → (M → Meaning) → Describes M → Option T → StatsArgs →
    List ℕ → Type 0
IsStatsBy meaning says (Some table) args = IsTable args.format
IsStatsBy meaning says None args = IsStatsIn meaning says args.format args

-- what `info` prints: the text that a disk keeps of its model, or what the disk is
abbrev pub IsInfo : Bool → Format → List ℕ → Type 0
IsInfo true f = IsUtf8
IsInfo false f = IsFields f

-- what a command that only reads prints
abbrev pub IsSeen : {M : Type 0} → (M → Meaning) → Describes M → Shows M → Look → List ℕ → Type 0
IsSeen meaning says shows (Status args) text = IsStatusBy meaning says args.format text
IsSeen meaning says shows (Info args) text = IsInfo args.model args.format text
IsSeen meaning says shows (Verify args) text = IsVerifiedBy meaning says args text
IsSeen meaning says shows (Log args) text = IsLoggedBy meaning says args.format args text
IsSeen meaning says shows (Show args) text = IsShownBy meaning says args.format args text
IsSeen meaning says shows (Stats args) text = IsStatsBy meaning says args.table args text
IsSeen meaning says shows (Draw args) text = IsDrawnBy meaning says args.vcd args text
IsSeen meaning says shows (Seq args) text = IsSimulationBy meaning says args.format text
IsSeen meaning says shows (Check args) text = IsSomeChecked says shows text

-- and a text of which it prints a beginning if it is refused
abbrev pub IsSeenSoFar : {M : Type 0} → (M → Meaning) → Describes M → Shows M → Look → List ℕ →
    Type 0
IsSeenSoFar meaning says shows (Log args) text = IsLogBegunBy meaning says args.format args text
IsSeenSoFar meaning says shows (Seq args) text = IsBegunBy meaning says args.format text
IsSeenSoFar meaning says shows look text = IsSeen meaning says shows look text
