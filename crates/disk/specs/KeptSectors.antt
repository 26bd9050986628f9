-- The sectors of an image; memory holds only the first ones.
use Rattle.std.specs.Prelude.{◌-◌, ◌≤◌, ℕ, List, ◌++◌, length, vec_capacity}
use Rattle.disk.specs.Growth.{zero_sectors}
use Rattle.disk.specs.declared.kept.Sectors.TheInside.{Inside}

-- all sectors, and the number of first ones that are kept in memory; those after them are zeros
pub record SectorList : Type 0 where
  pub items : List (List ℕ)
  pub kept : ℕ

abbrev pub list_of : Inside → SectorList
list_of s = record {
  items = s.kept.items ++ zero_sectors (s.count - length s.kept.items);
  kept = length s.kept.items;
}

-- room is reserved for all sectors, so that a write never allocates
pub record HasRoom (s : Inside) : Type 0 where
  pub within : length s.kept.items ≤ s.count
  pub room : s.count ≤ vec_capacity s.kept
