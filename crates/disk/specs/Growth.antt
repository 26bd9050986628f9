-- Growing a disk: sectors of zeros are appended to the old ones.
use Rattle.std.specs.Prelude.{◌≡◌, ◌-◌, ◌<◌, ◌≤◌, ℕ, zero, suc, Bool, true, false, List, []}
use Rattle.std.specs.Prelude.{◌∷◌, ◌++◌, length, replicate}
use Rattle.disk.specs.Disk.{MayLeave, PastState, past_state, zero_sector}
use Rattle.disk.specs.declared.growing.GrowthFault.{GrowthFault}
use Rattle.disk.specs.declared.growing.GrowthFault.TheVariants.{Fewer, TooMany, NoMemory, Device}

abbrev pub zero_sectors : ℕ → List (List ℕ)
zero_sectors count = replicate count zero_sector

-- these sectors, followed by zeros up to this number of sectors
abbrev pub grown_to : ℕ → List (List ℕ) → List (List ℕ)
grown_to sectors reads = reads ++ zero_sectors (sectors - length reads)

-- what a crash of a disk in this state may leave, followed by at most `most` sectors of zeros
pub record MayLeaveGrown (reads : List (List ℕ)) (dirty : List Bool) (most : ℕ)
    (image : List (List ℕ)) : Type 0 where
  pub before : List (List ℕ)
  pub zeros : ℕ
  pub left : MayLeave reads dirty before
  pub few : zeros ≤ most
  pub is : image ≡ before ++ zero_sectors zeros

-- The states of a disk while it gets more sectors, the latest first: a crash may leave any number
-- of the new ones.
abbrev pub growth : List (List ℕ) → List Bool → ℕ → List PastState
growth reads dirty zero = past_state reads dirty ∷ []
growth reads dirty (suc more) =
    past_state (reads ++ zero_sectors (suc more)) dirty ∷ growth reads dirty more

-- whether the device failed
abbrev pub is_of_device : GrowthFault → Bool
is_of_device Device = true
is_of_device fault = false

-- Why a growth of a disk of `old` sectors to `sectors` is refused, checked in this order: the disk
-- has more sectors, the limit `most` is lower, an allocation failed, the device failed.
abbrev pub GrowthIsRefused : GrowthFault → ℕ → ℕ → ℕ → Type 0 → Type 0
GrowthIsRefused Fewer old sectors most failed = sectors < old
GrowthIsRefused TooMany old sectors most failed = (old ≤ sectors) × (most < sectors)
GrowthIsRefused NoMemory old sectors most failed = (old ≤ sectors) × (sectors ≤ most)
GrowthIsRefused Device old sectors most failed = (old ≤ sectors) × (sectors ≤ most) × failed
