-- A migration from a disk of format 1: what is printed, what is left on the new disk, and why it is
-- refused.
use Rattle.std.specs.Prelude.{◌≡◌, ◌⊎◌, ℕ, false, List, [], ◌++◌, None, codes, decimal, length}
use Rattle.runs.specs.declared.commands.fault.CommandFault.{CommandFault}
use Rattle.runs.specs.declared.commands.fault.CommandFault.TheVariants.{Log, Migrate, Output}
use Rattle.commitlog.specs.Faults.{FormatIsRefused, OpenIsRefused}
use Rattle.commitlog.specs.Log.{IsDurable, Opened}
use Rattle.commitlog.specs.Records.{Holds, IsBlank, IsFormatted, records_of}
use Rattle.commitlog.specs.declared.fault.LogFault.{LogFault}
use Rattle.commitlog.specs.declared.fault.LogFault.TheVariants as log
use Rattle.commitlog.specs.declared.records.Entry.{Entry}
use Rattle.disk.specs.Disk.{DiskState}
use Rattle.disk.specs.declared.disk.DiskFault.TheVariants.{Device}
use Rattle.upkeep.specs.Migrated.{IsMigrated, IsNotAppended, IsPartlyMigrated, Leaves}
use Rattle.upkeep.specs.Migrated.{OldIsRefused as RecordsAreRefused}
use Rattle.upkeep.specs.Old.{IsOldModel, old_header_bytes}
use Rattle.upkeep.specs.declared.migration.MigrateFault.{MigrateFault}
use Rattle.upkeep.specs.declared.migration.MigrateFault.TheVariants.{New, Old}
use Rattle.model.specs.Meaning.{Meaning}
use Rattle.model.specs.World.{World}
use Rattle.recovery.specs.Ends.{IsEnd, end_behind}
use Rattle.recovery.specs.Header.{header_bytes, header_of}
use Rattle.recovery.specs.Recovered.{OpeningIsResourceFault}
use Rattle.recovery.specs.declared.RecoveryFault.{RecoveryFault}
use Rattle.recovery.specs.declared.RecoveryFault.TheVariants as recovery

-- 1. The old disk

-- The image holds these records under a header of this model in format 1, and `end` is the end in
-- force after them.
pub record HoldsOldLog (m : Meaning) (end : ℕ) (entries : List Entry)
    (image : List (List ℕ)) : Type 0 where
  pub first : ℕ
  pub possible : IsEnd first
  pub holds : Holds (old_header_bytes (header_of m first)) entries image
  pub behind : end_behind first entries ≡ end

-- 2. What is printed

-- the time of a front, and the number of events of its log
abbrev pub migrated_text : ℕ → ℕ → List ℕ
migrated_text time events =
    (codes "migrated " ++ decimal time) ++ (codes " events " ++ decimal events) ++ codes "\n"

-- `Taken` holds of the output of a migration: the time and the number of events of the front that
-- the widened records represent. Each crash leaves all records of the old log, widened, on the new
-- disk.
pub record PrintsMigrated (m : Meaning) (old_header : List ℕ) (olds : List Entry) (disk : DiskState)
    (Taken : List ℕ → Type 0) : Type 0 where
  pub header : List ℕ
  pub news : List Entry
  pub front : World
  pub migrated : IsMigrated m old_header header olds news front
  pub leaves : Leaves header news disk
  pub taken : Taken (migrated_text front.time (length front.log))

-- 3. What is left on the new disk

-- The image holds the first records of an old log, widened, under the header of this model with the
-- end of the old header, and they represent a world.
pub record IsPartlyMigratedUnderOldEnd (m : Meaning) (old_header : List ℕ) (olds : List Entry)
    (image : List (List ℕ)) : Type 0 where
  pub first : ℕ
  pub possible : IsEnd first
  pub old_is : old_header ≡ old_header_bytes (header_of m first)
  pub on_the_way : IsPartlyMigrated m olds (header_bytes (header_of m first)) image

-- an image without a log, or one of a migration under way
abbrev pub IsBlankOrUnderWay : Meaning → List ℕ → List Entry → List (List ℕ) → Type 0
IsBlankOrUnderWay m old_header olds image = IsBlank image ⊎ IsPartlyMigratedUnderOldEnd m old_header olds image

-- 4. Internal: the new log before it has records

pub record IsMadeFor {E : Type 0} (m : Meaning) (state : E → DiskState) (old_header : List ℕ)
    (log : Opened E) : Type 0 where
  pub first : ℕ
  pub possible : IsEnd first
  pub old_is : old_header ≡ old_header_bytes (header_of m first)
  pub new_is : log.header ≡ header_bytes (header_of m first)
  pub empty : IsDurable log.header [] (state log.disk)
  pub count : log.count ≡ 0
  pub usable : log.spent ≡ false

-- 5. Refusals

-- Why no end in force is found on an old disk: an allocation failure, a failed device, or a log
-- that is not of format 1 and this model with this end in force, though its records can be read.
abbrev pub IsNoOldLog : Meaning → ℕ → List (List ℕ) → RecoveryFault → Type 0
IsNoOldLog m end image recovery.NoMemory = Unit {0}
IsNoOldLog m end image (recovery.Log log.NoMemory) = Unit {0}
IsNoOldLog m end image (recovery.Log (log.Disk Device)) = Unit {0}
IsNoOldLog m end image recovery.OtherModel =
    IsFormatted image × ((entries : List Entry) → HoldsOldLog m end entries image → ⊥)
    × (records_of image ≡ None → ⊥)
IsNoOldLog m end image fault = ⊥

-- Why an old disk is refused. It does not say whether the device failed, since the disk is dropped.
abbrev pub OldIsRefused : Meaning → ℕ → CommandFault → List (List ℕ) → Type 0
OldIsRefused m end (Log fault) image = OpenIsRefused fault image (Unit {0})
OldIsRefused m end (Migrate (Old fault)) image = IsNoOldLog m end image fault
OldIsRefused m end fault image = ⊥

-- The new disk gets no log, or its log is made and not opened because of an allocation failure or a
-- failed device. `failed` says that the device failed in the call.
abbrev pub NewIsNotMade : LogFault → List (List ℕ) → Type 0 → Type 0
NewIsNotMade fault image failed =
    FormatIsRefused fault image failed ⊎ (IsBlank image × OpeningIsResourceFault fault failed)

-- A widened record is refused on the new disk of `sectors` sectors, after the records already
-- appended, or the device failed.
abbrev pub NewIsNotFilled : Meaning → List ℕ → List Entry → ℕ → LogFault → Type 0 → Type 0
NewIsNotFilled m old_header olds sectors fault failed =
    (appended : List Entry) × IsNotAppended m old_header olds appended sectors fault failed

-- Why no log is made for the old one: its header is not one of this model in format 1, or the new
-- disk refuses.
abbrev pub LogIsNotMade : Meaning → List ℕ → List (List ℕ) → CommandFault → Type 0 → Type 0
LogIsNotMade m old_header image (Log fault) failed = NewIsNotMade fault image failed
LogIsNotMade m old_header image (Migrate (Old recovery.OtherModel)) failed =
    IsOldModel m old_header → ⊥
LogIsNotMade m old_header image fault failed = ⊥

-- The fault is one of a migration, and its cause holds.
abbrev pub IsOfMigration : CommandFault → (MigrateFault → Type 0) → Type 0
IsOfMigration (Migrate fault) Cause = Cause fault
IsOfMigration fault Cause = ⊥

-- Why a disk is not migrated, or only in part, or the output is not written: by the old log, the
-- former image of the new disk, and the number of sectors that it has now. `old_failed` and
-- `new_failed` say that a device failed in the call.
abbrev pub MigratingIsRefused : {D : Type 0} → Meaning → Opened D → List (List ℕ) → ℕ →
    CommandFault →
    Type 0 → Type 0 → Type 0
MigratingIsRefused m old image sectors (Log fault) old_failed new_failed =
    NewIsNotMade fault image new_failed
MigratingIsRefused m old image sectors (Migrate (Old fault)) old_failed new_failed =
    RecordsAreRefused m old fault old_failed
MigratingIsRefused m old image sectors (Migrate (New fault)) old_failed new_failed =
    IsBlank image × NewIsNotFilled m old.header old.records sectors fault new_failed
MigratingIsRefused m old image sectors Output old_failed new_failed = Unit {0}
MigratingIsRefused m old image sectors fault old_failed new_failed = ⊥
