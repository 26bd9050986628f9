-- The state of a disk of sectors, and what a crash may leave of it.
use Rattle.std.specs.Prelude.{◌/◌, ◌<◌, ◌≤◌, ◌≡◌, ◌⊎◌, ◌^◌, ℕ, Bool, true, false, List, [], ◌∷◌}
use Rattle.std.specs.Prelude.{length, replicate, slice_index, slice_index_or, Result, IsErrOf}
use Rattle.std.specs.Simd.{first_chunks}
use Rattle.disk.specs.declared.disk.DiskFault.{DiskFault}
use Rattle.disk.specs.declared.disk.DiskFault.TheVariants.{Device}

-- the number of bytes of a sector
abbrev pub sector_bytes : ℕ
sector_bytes = 512

-- the fewest and the most sectors of a disk that a file holds; a large one has up to 2 ^ 24
abbrev pub least_sectors : ℕ
least_sectors = 8

abbrev pub most_sectors : ℕ
most_sectors = 2 ^ 17

-- a sector of zeros
abbrev pub zero_sector : List ℕ
zero_sector = replicate sector_bytes 0

-- the content of a sector
pub record IsSector (sector : List ℕ) : Type 0 where
  pub size : length sector ≡ sector_bytes
  pub bytes : (i : ℕ) → slice_index sector i < 256

-- the whole sectors of these bytes
abbrev pub image_of : List ℕ → List (List ℕ)
image_of bytes = first_chunks sector_bytes (length bytes / sector_bytes) bytes

-- fewer than 2 ^ 32 sectors of 512 bytes, each of them dirty or not
pub record IsDisk (reads : List (List ℕ)) (dirty : List Bool) : Type 0 where
  pub numbered : length reads < 2 ^ 32
  pub each : length dirty ≡ length reads
  pub whole : (n : ℕ) → n < length reads → IsSector (slice_index_or reads n [])

-- no sector is dirty
abbrev pub IsSynced : List Bool → Type 0
IsSynced dirty = (n : ℕ) → slice_index_or dirty n false ≡ false

-- each dirty sector lies in the span from `first` to before `end`
pub record IsSpan (first end : ℕ) (dirty : List Bool) : Type 0 where
  pub within : end ≤ length dirty
  pub spans : (n : ℕ) → slice_index_or dirty n false ≡ true → (first ≤ n) × (n < end)

-- A crash may leave this image: it has any 512 bytes in each dirty sector, and what a read gives in
-- each other one.
pub record MayLeave (reads : List (List ℕ)) (dirty : List Bool)
    (image : List (List ℕ)) : Type 0 where
  pub sectors : length image ≡ length reads
  pub in_sync : (n : ℕ) → slice_index_or dirty n false ≡ false →
      slice_index_or image n [] ≡ slice_index_or reads n []
  pub torn : (n : ℕ) → slice_index_or dirty n false ≡ true → IsSector (slice_index_or image n [])

-- the state of a disk at a moment: what a read gave of each sector, and which sectors were dirty
pub record PastState : Type 0 where
  pub reads : List (List ℕ)
  pub dirty : List Bool

-- What contracts see of a disk: what a read gives of each sector, which sectors are dirty, its
-- states at earlier moments, the latest first, and how often it has failed.
pub record DiskState : Type 0 where
  pub reads : List (List ℕ)
  pub dirty : List Bool
  pub past : List PastState
  pub failures : ℕ

-- the present moment, as a number that never falls; the first moment is 0
unfoldable pub moment : DiskState → ℕ
moment disk = length disk.past

abbrev pub past_state : List (List ℕ) → List Bool → PastState
past_state reads dirty = record { reads = reads; dirty = dirty }

-- A crash at some moment from t on may have left this image, if these were the states of the disk
-- at all moments, the latest first.
abbrev pub LeftIn : List PastState → ℕ → List (List ℕ) → Type 0
LeftIn [] t image = ⊥
LeftIn (stood ∷ before) t image = ((t ≤ length before) × MayLeave stood.reads stood.dirty image)
    ⊎ LeftIn before t image

-- a crash of this disk at some moment from t up to now may have left this image
unfoldable pub left_since : DiskState → ℕ → List (List ℕ) → Type 0
left_since disk t image = LeftIn (past_state disk.reads disk.dirty ∷ disk.past) t image

-- Time passes: after the call, a crash since t may have left exactly what it could leave before the
-- call, or what a crash now may leave.
pub record Elapses (old new : DiskState) : Type 0 where
  pub later : moment old ≤ moment new
  pub nothing_else : (t : ℕ) (image : List (List ℕ)) → t ≤ moment old → left_since new t image →
      left_since old t image ⊎ MayLeave new.reads new.dirty image
  pub still : (t : ℕ) (image : List (List ℕ)) → t ≤ moment old → left_since old t image →
      left_since new t image

-- A crash at any moment from the state `old` on leaves an image with property P.
pub record LeavesOnly (old new : DiskState) (P : List (List ℕ) → Type 0) : Type 0 where
  pub later : moment old ≤ moment new
  pub each : (image : List (List ℕ)) → left_since new (moment old) image → P image
  -- for a sequence of calls that began at an earlier moment t
  pub before : (t : ℕ) (image : List (List ℕ)) → t ≤ moment old → left_since new t image →
      left_since old t image ⊎ P image

-- `Device` is returned exactly if the device has failed during the call
pub record HasCause (before now : ℕ) (result : Result (Unit {0}) DiskFault) : Type 0 where
  pub later : before ≤ now
  pub failed : IsErrOf result Device → before < now
  pub only : before < now → IsErrOf result Device

-- The effect of a call that only reads: the reads are the same, a disk without dirty sectors still
-- has none, and a crash leaves nothing that one before the call could not leave.
pub record OnlyLooks (old new : DiskState) : Type 0 where
  pub same : new.reads ≡ old.reads
  pub in_sync : IsSynced old.dirty → IsSynced new.dirty
  pub now : (image : List (List ℕ)) → MayLeave new.reads new.dirty image →
      MayLeave old.reads old.dirty image
  pub since : LeavesOnly old new (MayLeave old.reads old.dirty)
