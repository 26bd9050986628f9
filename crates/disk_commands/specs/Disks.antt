-- What `new` of a disk that goes on from another one, `reopen` and `grow` print.
use Rattle.std.specs.Prelude.{◌≡◌, ◌≤◌, ◌<◌, ℕ, List, [], ◌++◌, codes, decimal, length, replicate}
use Rattle.std.specs.Prelude.{Option, slice_index_or}
use Rattle.segments.specs.Archiving.{IsBegunAt, events_before}
use Rattle.model.specs.Meaning.{Meaning}
use Rattle.model.specs.World.{World}
use Rattle.model.specs.declared.origin.Origin.{Origin}
use Rattle.texts.specs.ModelFile.{IsModelFile}
use Rattle.upkeep.specs.Verified.{IsOfWorld}
use Rattle.upkeep.specs.declared.verifying.Verified.{Verified}
use Rattle.views.specs.Reading.{IsBelieved, IsFrontOn, IsOn}
use Rattle.views.specs.Views.{Describes}
use Rattle.disk.specs.Disk.{zero_sector}

-- The number of sectors of a new disk, and the time from which it goes on, with the number of events
-- before it.
abbrev pub segment_text : ℕ → ℕ → ℕ → List ℕ
segment_text sectors time events = (codes "formatted " ++ decimal sectors)
    ++ (codes " sectors\ngoes on from " ++ decimal time) ++ (codes " events " ++ decimal events)
    ++ codes "\n"

-- The text of a new disk that goes on from the world to which the image of another one is replayed.
pub record IsNewSegment {M : Type 0} (meaning : M → Meaning) (says : Describes M) (sectors : ℕ)
    (text : List ℕ) : Type 0 where
  pub source : List ℕ
  pub model : M
  pub end : ℕ
  pub world : World
  pub file : IsModelFile says source model end
  pub front : IsFrontOn (meaning model) end world
  pub is : text ≡ segment_text sectors world.time
      (events_before world.numbers (length world.pending))

-- the sectors from this number on have only zeros
abbrev pub IsZeroFrom : ℕ → List (List ℕ) → Type 0
IsZeroFrom first image = (n : ℕ) → first ≤ n → n < length image →
    slice_index_or image n [] ≡ zero_sector

-- A disk with neither a log nor anything else: the gate of its header, that of the first record and
-- all sectors after it have only zeros.
pub record IsUnused (image : List (List ℕ)) : Type 0 where
  pub header : slice_index_or image 0 [] ≡ zero_sector
  pub first : slice_index_or image 2 [] ≡ zero_sector
  pub rest : IsZeroFrom 3 image

-- the time and the number of events of the world that a reopened disk represents
abbrev pub reopened_text : Verified → List ℕ
reopened_text seen = (codes "reopened: committed " ++ decimal seen.time)
    ++ (codes " events " ++ decimal seen.events) ++ codes "\n"

-- The text of the world that the image of a disk represents, once its gate is open, and of its
-- origin. A checkpoint in it, but for the origin, holds what the records before it reach.
pub record IsReopenedText {M : Type 0} (meaning : M → Meaning) (says : Describes M)
    (text : List ℕ) : Type 0 where
  pub source : List ℕ
  pub model : M
  pub end : ℕ
  pub image : List (List ℕ)
  pub origin : Option Origin
  pub on : Meaning
  pub seen : Verified
  pub line : List ℕ
  pub file : IsModelFile says source model end
  pub is_on : IsOn (meaning model) image origin on
  pub of_world : IsOfWorld on end image seen
  pub line_is : IsBelieved (IsBegunAt image) origin line
  pub is : text ≡ reopened_text seen ++ line

-- the former and the present number of sectors of a disk
abbrev pub grown_text : ℕ → ℕ → List ℕ
grown_text before sectors =
    (codes "grown " ++ decimal before) ++ (codes " to " ++ decimal sectors) ++ codes " sectors\n"

-- the text says that the disk has this number of sectors now, no fewer than before
abbrev pub IsGrown : ℕ → List ℕ → Type 0
IsGrown sectors text = (before : ℕ) × (before ≤ sectors) × (text ≡ grown_text before sectors)
