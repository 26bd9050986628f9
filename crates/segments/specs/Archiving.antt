-- What is read of a disk of which a segment is made, and what that segment is.
use Rattle.std.specs.Prelude.{◌≡◌, ◌⊎◌, ℕ, ◌^◌, ◌<◌, ◌-◌, List, [], Option, Some, length, min}
use Rattle.std.specs.List.{slice_get}
use Rattle.commitlog.specs.Log.{IsDurable}
use Rattle.commitlog.specs.Records.{Holds, entry_with}
use Rattle.commitlog.specs.declared.records.Entry.{Entry}
use Rattle.disk.specs.Disk.{DiskState}
use Rattle.model.specs.Meaning.{Meaning}
use Rattle.model.specs.Origins.{from_world, total}
use Rattle.model.specs.World.{World}
use Rattle.model.specs.declared.origin.Origin.{Origin}
use Rattle.recovery.specs.Bodies.{events_body}
use Rattle.recovery.specs.Header.{header_bytes, header_of}
use Rattle.recovery.specs.Histories.{IsBeginning}
use Rattle.recovery.specs.Replay.{IsReplayedTo}
use Rattle.recovery.specs.Represents.{IsGenuine}
use Rattle.segments.specs.Fronts.{begun}
use Rattle.segments.specs.Segments.{first_records, origin_in}

-- The image holds a log that begins with this origin, or with what processes do at their start if
-- there is none.
pub record IsOriginOn (lps : ℕ) (image : List (List ℕ)) (o : Option Origin) : Type 0 where
  pub header : List ℕ
  pub entries : List Entry
  pub holds : Holds header entries image
  pub begins : origin_in lps entries ≡ o

-- The records are those of a segment that goes on from this time: that of the second one, which has
-- no events; or 0, if the making of the segment came to no second record.
abbrev pub IsTimeIn : List Entry → ℕ → Type 0
IsTimeIn entries time =
    (time ≡ 0) ⊎ (slice_get entries 1 ≡ Some (entry_with 1 (events_body time [])))

abbrev pub IsBegunAt : List (List ℕ) → ℕ → Type 0
IsBegunAt image time =
    (header : List ℕ) × (entries : List Entry) × Holds header entries image × IsTimeIn entries time

-- How many events came before a world with these send numbers and this number of pending messages:
-- each message that was sent is handled or pending. A sum beyond 2^64 - 1 counts as that.
abbrev pub events_before : List ℕ → ℕ → ℕ
events_before numbers pending = min (total numbers) (2 ^ 64 - 1) - pending

-- The disk has the first records of a segment that goes on from this world, and no others. A crash
-- leaves them.
pub record IsMade (m : Meaning) (end : ℕ) (v : World) (disk : DiskState) : Type 0 where
  pub few : length v.pending < 2 ^ 32
  pub durable : IsDurable (header_bytes (header_of m end)) (first_records v) disk

-- The next disk has the first records of a segment that goes on from the world to which the image
-- is replayed. If the image is genuine, a history of calls begins with that disk: the one of the
-- simulation that goes on from that world.
pub record IsNextDisk (m : Meaning) (end : ℕ) (image : List (List ℕ)) (next : DiskState) :
    Type 0 where
  pub world : World
  pub replayed : IsReplayedTo m end image world
  pub made : IsMade m end world next
  pub begins : IsGenuine m end image → IsBeginning (from_world m world) (begun m world) next
