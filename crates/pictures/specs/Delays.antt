-- Values, and how often each came.
use Rattle.std.specs.BTreeMap.{IsOrdered}
use Rattle.std.specs.List.Sorted.{IsPermutation}
use Rattle.std.specs.Ordering.{nat_cmp}
use Rattle.std.specs.Prelude.{ℕ, ◌≡◌, ◌++◌, List, [], ◌∷◌, length, replicate}
use Rattle.pictures.specs.declared.delays.Delays.{Delays}

-- each of these values as often as its count says
abbrev pub expanded : List (ℕ × ℕ) → List ℕ
expanded [] = []
expanded (e ∷ es) = replicate e.1 e.0 ++ expanded es

-- these values are counted
pub record AreCounted (values : List ℕ) (d : Delays) : Type 0 where
  pub ordered : IsOrdered nat_cmp d.counts
  pub same : IsPermutation values (expanded d.counts.entries)
  pub total : d.total ≡ length values
