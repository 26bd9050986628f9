-- A disk in memory, and the image that its crash leaves.
use Rattle.std.specs.Prelude.{◌≡◌, ◌<◌, ℕ, Bool, false, List, [], length, replicate, slice_index_or}
use Rattle.std.specs.Prelude.{if◌then◌else◌, ◌++◌, take, drop}
use Rattle.disk.specs.Disk.{IsDisk, PastState, DiskState, sector_bytes}
use Rattle.disk.specs.Plans.{Counts}
use Rattle.disk.specs.declared.memory.Torn.{Torn}
use Rattle.disk.specs.declared.memory.Torn.TheVariants.{Old, New, Fill, Cut}

-- For each sector: what a read gives, its content at the last successful sync, the content of the
-- last write, failed or not, and whether it is dirty. And the states of the disk at earlier
-- moments, and the counts of its operations.
pub record MemoryState : Type 0 where
  pub reads : List (List ℕ)
  pub synced : List (List ℕ)
  pub attempted : List (List ℕ)
  pub dirty : List Bool
  pub sound : IsDisk reads dirty
  pub past : List PastState
  pub counts : Counts

abbrev pub disk_of_memory : MemoryState → DiskState
disk_of_memory disk = record {
  reads = disk.reads;
  dirty = disk.dirty;
  past = disk.past;
  failures = disk.counts.failures;
}

-- what a crash leaves in a dirty sector
abbrev pub torn_content : Torn → MemoryState → ℕ → List ℕ
torn_content Old disk n = slice_index_or disk.synced n []
torn_content New disk n = slice_index_or disk.attempted n []
torn_content (Fill byte) disk n = replicate sector_bytes byte
torn_content (Cut count) disk n =
    take count (slice_index_or disk.attempted n []) ++ drop count (slice_index_or disk.synced n [])

-- what a crash leaves in any sector
abbrev pub crash_content : Torn → MemoryState → ℕ → List ℕ
crash_content torn disk n = if slice_index_or disk.dirty n false then torn_content torn disk n
    else slice_index_or disk.reads n []

-- the image that a crash leaves
pub record IsCrashed (torn : Torn) (disk : MemoryState) (image : List (List ℕ)) : Type 0 where
  pub sectors : length image ≡ length disk.reads
  pub content : (n : ℕ) → n < length disk.reads →
      slice_index_or image n [] ≡ crash_content torn disk n
