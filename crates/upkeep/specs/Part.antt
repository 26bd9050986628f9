-- A disk of which memory holds only some sectors.
use Rattle.std.specs.Prelude.{◌<◌, ◌^◌, ℕ, Bool, List, [], length, map, nat_lt}
use Rattle.std.specs.Prelude.{slice_index, slice_index_or}
use Rattle.disk.specs.Disk.{DiskState, IsDisk, IsSector}
use Rattle.upkeep.specs.declared.inspection.held.Held.TheInside.{Inside}

-- What reads would give of all sectors, and which of them are held. Those that are not held are
-- zeros here, and no read gives them.
pub record HeldSectors : Type 0 where
  pub items : List (List ℕ)
  pub held : List Bool

-- `kept` begins with a sector of zeros. The place of a sector that is not held is 0.
abbrev pub held_of : Inside → HeldSectors
held_of h = record {
  items = map (λ p. slice_index_or h.kept.items p []) h.places.items;
  held = map (λ p. nat_lt 0 p) h.places.items;
}

-- each of them has 512 bytes
abbrev pub AreSectors : List (List ℕ) → Type 0
AreSectors sectors = (n : ℕ) → n < length sectors → IsSector (slice_index_or sectors n [])

-- each place is one in `kept`, whose first sector is zeros
pub record HasPlaces (h : Inside) : Type 0 where
  pub some : 0 < length h.kept.items
  pub within : (n : ℕ) → slice_index h.places.items n < length h.kept.items
  pub few : length h.places.items < 2 ^ 32
  pub whole : AreSectors h.kept.items

-- What contracts see of such a disk: what reads give or would give, which sectors are held, which
-- are dirty, and how often a call has failed.
pub record PartState : Type 0 where
  pub reads : List (List ℕ)
  pub held : List Bool
  pub dirty : List Bool
  pub sound : IsDisk reads dirty
  pub failures : ℕ

abbrev pub disk_of_part : PartState → DiskState
disk_of_part disk = record {
  reads = disk.reads;
  dirty = disk.dirty;
  past = [];
  failures = disk.failures;
}
