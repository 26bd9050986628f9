-- What the commands that save what is good of a disk print.
use Rattle.std.specs.Prelude.{◌≡◌, ◌+◌, ℕ, Bool, List, ◌++◌, Option, codes, decimal, false, true}
use Rattle.segments.specs.Archiving.{IsBegunAt, IsTimeIn}
use Rattle.disk.specs.Disk.{DiskState}
use Rattle.model.specs.Meaning.{Meaning}
use Rattle.model.specs.declared.origin.Origin.{Origin}
use Rattle.recovery.specs.declared.RecoveryFault.{RecoveryFault}
use Rattle.recovery.specs.declared.RecoveryFault.TheVariants.{OtherModel, BadRecord, NotTheLeast}
use Rattle.recovery.specs.declared.RecoveryFault.TheVariants.{GoesBack, BadCheckpoint, BadEnd}
use Rattle.recovery.specs.declared.RecoveryFault.TheVariants.{NoMemory, NumberLimit, Log}
use Rattle.texts.specs.ModelFile.{IsModelFile}
use Rattle.upkeep.specs.Cutting.{IsCut}
use Rattle.upkeep.specs.Rows.{row_of}
use Rattle.upkeep.specs.Salvaging.{IsSalvaged}
use Rattle.upkeep.specs.declared.cutting.CutLog.{CutLog}
use Rattle.upkeep.specs.declared.salvaging.Salvaged.{Salvaged}
use Rattle.views.specs.Reading.{IsBelieved, IsOn, IsOnRow}
use Rattle.views.specs.Views.{Describes}

-- the name of a fault of a record, after a space
abbrev pub fault_name : RecoveryFault → List ℕ
fault_name OtherModel = codes " OtherModel"
fault_name BadRecord = codes " BadRecord"
fault_name NotTheLeast = codes " NotTheLeast"
fault_name GoesBack = codes " GoesBack"
fault_name BadCheckpoint = codes " BadCheckpoint"
fault_name NoMemory = codes " NoMemory"
fault_name NumberLimit = codes " NumberLimit"
fault_name (Log fault) = codes " Log"
fault_name BadEnd = codes " BadEnd"

-- Why a record is not taken over, by what is wrong with it and whether its gate is open. The old log
-- may just have ended at a closed gate; zeros after it look like a record without a kind.
abbrev pub reason_of : RecoveryFault → Bool → List ℕ
reason_of (Log fault) true = codes ": no whole record"
reason_of (Log fault) false = codes ": none, its gate is closed"
reason_of BadRecord true = codes ": BadRecord"
reason_of BadRecord false = codes ": none, its gate is closed"
reason_of OtherModel is_open = codes ": OtherModel"
reason_of NotTheLeast is_open = codes ": NotTheLeast"
reason_of GoesBack is_open = codes ": GoesBack"
reason_of BadCheckpoint is_open = codes ": BadCheckpoint"
reason_of NoMemory is_open = codes ": NoMemory"
reason_of NumberLimit is_open = codes ": NumberLimit"
reason_of BadEnd is_open = codes ": BadEnd"

-- the time and the number of events of a world, after a text
abbrev pub seen_text : List ℕ → ℕ → ℕ → List ℕ
seen_text before time events =
    (before ++ decimal time) ++ (codes " events " ++ decimal events) ++ codes "\n"

-- How many records were taken over, of how many whole ones in a row; what they represent; and
-- why the next one, counted from 0, was not.
abbrev pub numbers_text : Salvaged → List ℕ
numbers_text is = (codes "recovered " ++ decimal is.records) ++ (codes " of " ++ decimal is.whole)

abbrev pub row_text : Salvaged → List ℕ
row_text is =
    numbers_text is ++ seen_text (codes " whole records: committed ") is.seen.time is.seen.events

abbrev pub stop_text : Salvaged → List ℕ
stop_text is =
    (codes "record " ++ decimal is.records) ++ reason_of is.stop is.is_open ++ codes "\n"

abbrev pub recovered_text : Salvaged → List ℕ
recovered_text is = row_text is ++ stop_text is

-- The text of the good records of a damaged disk, which the new disk durably has, and which
-- represent a world; and of the origin with which they begin.
pub record IsRecoveredText {M : Type 0} (meaning : M → Meaning) (says : Describes M)
    (text : List ℕ) : Type 0 where
  pub source : List ℕ
  pub model : M
  pub end : ℕ
  pub image : List (List ℕ)
  pub origin : Option Origin
  pub on : Meaning
  pub new : DiskState
  pub salvaged : Salvaged
  pub line : List ℕ
  pub file : IsModelFile says source model end
  pub is_on : IsOnRow (meaning model) image origin on
  pub of_world : IsSalvaged on end image new salvaged
  pub line_is : IsBelieved (IsTimeIn (row_of image)) origin line
  pub is : text ≡ recovered_text salvaged ++ line

-- which records a cut takes away, counted from 0, and what is wrong with the first of them
abbrev pub fault_text : CutLog → List ℕ
fault_text cut = (codes ": Record " ++ decimal cut.left) ++ fault_name cut.fault ++ codes "\n"

abbrev pub taken_text : CutLog → List ℕ
taken_text cut =
    (codes "takes away records " ++ decimal cut.left) ++ (codes " to " ++ decimal cut.last)
    ++ fault_text cut

-- what a cut disk represents
abbrev pub cut_text : CutLog → List ℕ
cut_text cut = seen_text (codes "cut: committed ") cut.seen.time cut.seen.events

-- The text of a cut of the log that an image of a disk holds: which records it takes away, what
-- those that it leaves represent, and the origin with which it begins.
pub record IsCutText {M : Type 0} (meaning : M → Meaning) (says : Describes M)
    (text : List ℕ) : Type 0 where
  pub source : List ℕ
  pub model : M
  pub end : ℕ
  pub image : List (List ℕ)
  pub origin : Option Origin
  pub on : Meaning
  pub left : List (List ℕ)
  pub cut : CutLog
  pub line : List ℕ
  pub file : IsModelFile says source model end
  pub is_on : IsOn (meaning model) image origin on
  pub of_world : IsCut on image left cut
  pub line_is : IsBelieved (IsBegunAt image) origin line
  pub is : text ≡ taken_text cut ++ cut_text cut ++ line
