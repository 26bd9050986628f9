-- A disk over a file, modelled by the image that it keeps in memory.
use Rattle.std.specs.Prelude.{◌≡◌, ◌<◌, ◌≤◌, ℕ, Bool, true, false, List, Option, Some, None}
use Rattle.std.specs.Prelude.{slice_index_or}
use Rattle.disk.specs.Disk.{IsDisk, PastState, DiskState, least_sectors}

-- what reads give, which sectors are dirty, the states at earlier moments, and how often the file
-- has failed
pub record FileState : Type 0 where
  pub reads : List (List ℕ)
  pub dirty : List Bool
  pub sound : IsDisk reads dirty
  pub past : List PastState
  pub failures : ℕ

abbrev pub disk_of_file : FileState → DiskState
disk_of_file disk = record {
  reads = disk.reads;
  dirty = disk.dirty;
  past = disk.past;
  failures = disk.failures;
}

-- the number of sectors that a file may have: the given number, or 8 to `most` if none is given
abbrev pub MayHave : Option ℕ → ℕ → ℕ → Type 0
MayHave None most count = (least_sectors ≤ count) × (count ≤ most)
MayHave (Some sectors) most count = count ≡ sectors

-- The first run of adjacent dirty sectors between `from` and `end` goes from `first` to before
-- `behind`. If there is none, both are `end`.
pub record IsNextRun (dirty : List Bool) (from end first behind : ℕ) : Type 0 where
  pub starts : from ≤ first
  pub order : first ≤ behind
  pub ends : behind ≤ end
  pub in_sync : (n : ℕ) → from ≤ n → n < first → slice_index_or dirty n false ≡ false
  pub side_by_side : (n : ℕ) → first ≤ n → n < behind → slice_index_or dirty n false ≡ true
  pub some : first < end → first < behind
  pub whole : behind < end → slice_index_or dirty behind false ≡ false
