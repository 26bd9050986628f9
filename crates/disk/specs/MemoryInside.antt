-- The representation of a disk in memory, and its invariant.
use Rattle.std.specs.Prelude.{◌≡◌, ◌<◌, ℕ, false, List, [], length, slice_index_or}
use Rattle.disk.specs.Disk.{IsSector}
use Rattle.disk.specs.Memory.{MemoryState}
use Rattle.disk.specs.declared.memory.MemDisk.TheInside.{Inside}

abbrev pub state_of : Inside → MemoryState
state_of m = record {
  reads = m.image.sectors.items;
  synced = m.synced.items;
  attempted = m.attempted.items;
  dirty = m.image.dirty.items;
  sound = record { numbered = m.image.numbered; each = m.image.each; whole = m.image.whole };
  past = m.history.past;
  counts = m.schedule;
}

-- a list of `count` sectors
pub record AreSectors (count : ℕ) (sectors : List (List ℕ)) : Type 0 where
  pub size : length sectors ≡ count
  pub whole : (n : ℕ) → n < count → IsSector (slice_index_or sectors n [])

pub record IsMemoryKept (m : Inside) : Type 0 where
  pub synced : AreSectors (length m.image.sectors.items) m.synced.items
  pub attempted : AreSectors (length m.image.sectors.items) m.attempted.items
  -- the synced content of a sector that is not dirty is what a read gives
  pub in_sync : (n : ℕ) → slice_index_or m.image.dirty.items n false ≡ false →
      slice_index_or m.synced.items n [] ≡ slice_index_or m.image.sectors.items n []
