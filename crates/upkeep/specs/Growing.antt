-- What a disk keeps that grows after its log, and why it does not grow.
use Rattle.std.specs.Prelude.{ℕ, List, [], None, ◌++◌, ◌≡◌, ◌≤◌, length, slice_index_or, Bool}
use Rattle.std.specs.Prelude.{Err, Ok, Result, false}
use Rattle.commitlog.specs.Faults.{OpenIsRefused}
use Rattle.commitlog.specs.Records.{Holds, IsFormatted, records_of}
use Rattle.commitlog.specs.declared.records.Entry.{Entry}
use Rattle.recovery.specs.Crashes.{RepresentsUnderItsEnd}
use Rattle.disk.specs.Disk.{DiskState, IsSynced}
use Rattle.disk.specs.Growth.{GrowthIsRefused, grown_to, is_of_device}
use Rattle.model.specs.Meaning.{Meaning}
use Rattle.model.specs.World.{World}
use Rattle.recovery.specs.Ends.{HoldsLog, IsOfModel}
use Rattle.recovery.specs.Recovered.{OpeningIsResourceFault, is_of_disk as recovery_is_of_disk}
use Rattle.recovery.specs.Replay.{IsReplayedTo}
use Rattle.recovery.specs.Represents.{IsGenuine, Represents, RepresentsAtLeast}
use Rattle.recovery.specs.declared.RecoveryFault.TheVariants.{Log, NoMemory, OtherModel}
use Rattle.upkeep.specs.declared.growing.GrowingFault.{GrowingFault}
use Rattle.upkeep.specs.declared.growing.GrowingFault.TheVariants.{Growth, Recovery}
use Rattle.upkeep.specs.declared.growing.disks.Grown.{Grown}

-- 1. Laws of an image with any sectors after it

-- it represents the same world
abbrev pub RepresentationStays : Type 0
RepresentationStays = (m : Meaning) (end : ℕ) (image behind : List (List ℕ)) (w : World) →
    Represents m end image w → Represents m end (image ++ behind) w

-- it represents a world at least at the same time
abbrev pub RepresentationAtLeastStays : Type 0
RepresentationAtLeastStays = (m : Meaning) (end a : ℕ) (image behind : List (List ℕ)) →
    RepresentsAtLeast m end a image → RepresentsAtLeast m end a (image ++ behind)

-- the same under the end in force on it
abbrev pub RepresentationUnderItsEndStays : Type 0
RepresentationUnderItsEndStays = (m : Meaning) (a : ℕ) (image behind : List (List ℕ)) →
    RepresentsUnderItsEnd m a image → RepresentsUnderItsEnd m a (image ++ behind)

-- it holds the same log of a model
abbrev pub HeldLogStays : Type 0
HeldLogStays = (m : Meaning) (end : ℕ) (entries : List Entry) (image behind : List (List ℕ)) →
    HoldsLog m end entries image → HoldsLog m end entries (image ++ behind)

-- its log is replayed to the same world
abbrev pub ReplayStays : Type 0
ReplayStays = (m : Meaning) (end : ℕ) (image behind : List (List ℕ)) (w : World) →
    IsReplayedTo m end image w → IsReplayedTo m end (image ++ behind) w

-- if it holds a log, the log is genuine if it was
abbrev pub GenuineStays : Type 0
GenuineStays = (m : Meaning) (end : ℕ) (header : List ℕ) (records : List Entry)
    (image behind : List (List ℕ)) → Holds header records image →
    IsGenuine m end image → IsGenuine m end (image ++ behind)

-- 2. A call

-- The image holds a log of this model.
pub record HasLog (m : Meaning) (image : List (List ℕ)) : Type 0 where
  pub end : ℕ
  pub entries : List Entry
  pub log : HoldsLog m end entries image

-- A disk of this model that was asked to have `sectors` sectors, at most `most`, has grown: sectors
-- of zeros follow the old ones, and all are synced. A read gives the same log, which is genuine if
-- it was.
pub record HasGrown (m : Meaning) (old new : DiskState) (sectors most : ℕ)
    (done : Grown) : Type 0 where
  pub reads : new.reads ≡ grown_to sectors old.reads
  pub in_sync : IsSynced new.dirty
  pub before : done.before ≡ length old.reads
  pub now : done.sectors ≡ sectors
  pub not_fewer : done.before ≤ sectors
  pub not_too_many : sectors ≤ most
  pub ours : HasLog m old.reads
  pub held : (header : List ℕ) (records : List Entry) → Holds header records old.reads →
      Holds header records new.reads
  pub genuine : (end : ℕ) → IsGenuine m end old.reads → IsGenuine m end new.reads

-- the device failed
abbrev pub is_of_disk : GrowingFault → Bool
is_of_disk (Recovery fault) = recovery_is_of_disk fault
is_of_disk (Growth fault) = is_of_device fault

-- the device did not fail in the call, unless the outcome is a fault that says so
abbrev pub NamesFailure : {T : Type 0} → DiskState → DiskState → Result T GrowingFault → Type 0
NamesFailure old new (Ok done) = new.failures ≡ old.failures
NamesFailure old new (Err fault) = is_of_disk fault ≡ false → new.failures ≡ old.failures

-- Why a disk does not grow to `sectors` sectors, at most `most`: its log cannot be opened, its
-- records can be read but are another model's, or an allocation failed meanwhile; or the log is
-- this model's, and the disk refuses. `failed` says that the device failed during the call.
abbrev pub GrowingIsRefused : Meaning → List (List ℕ) → ℕ → ℕ → Type 0 → GrowingFault → Type 0
GrowingIsRefused m image sectors most failed (Recovery (Log fault)) = OpenIsRefused fault image
    failed
GrowingIsRefused m image sectors most failed (Recovery OtherModel) =
    IsFormatted image × (IsOfModel m (slice_index_or image 1 []) → ⊥)
    × (records_of image ≡ None → ⊥)
GrowingIsRefused m image sectors most failed (Recovery NoMemory) = IsOfModel m
    (slice_index_or image 1 [])
GrowingIsRefused m image sectors most failed (Recovery fault) = ⊥
GrowingIsRefused m image sectors most failed (Growth fault) =
    HasLog m image × GrowthIsRefused fault (length image) sectors most failed

-- Why a disk that represents a world does not grow: only because an allocation or the device
-- failed, or because of the number of sectors.
abbrev pub IsResourceFaultAtGrowing : ℕ → ℕ → ℕ → Type 0 → GrowingFault → Type 0
IsResourceFaultAtGrowing old sectors most failed (Recovery (Log fault)) = OpeningIsResourceFault fault failed
IsResourceFaultAtGrowing old sectors most failed (Recovery NoMemory) = Unit {0}
IsResourceFaultAtGrowing old sectors most failed (Recovery fault) = ⊥
IsResourceFaultAtGrowing old sectors most failed (Growth fault) = GrowthIsRefused fault old sectors most
    failed
