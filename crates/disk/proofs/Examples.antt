-- Examples: images, plans, and what a crash may leave.
use Rattle.std.specs.Prelude.{replicate}
use Rattle.std.proofs.Common.{◌++◌, ◌≡◌, ℕ, zero, suc, Bool, true, false, List, [], ◌∷◌, get_or, Some, None, refl, ap, arith}
use Rattle.disk.specs.Disk.{image_of, IsDisk, IsSector, MayLeave}
use Rattle.disk.specs.Memory.{MemoryState, crash_content}
use Rattle.disk.specs.declared.memory.Torn.TheVariants.{Old, New, Fill, Cut}
use Rattle.disk.proofs.Sectors.{replicate_whole}
use Rattle.disk.specs.Plans.{Counts, started, operation_counted, write_counted, fails, write_fails}

-- a partial sector is left out
two_sectors : image_of (replicate 1030 7) ≡ replicate 512 7 ∷ (replicate 512 7 ∷ [])
two_sectors = refl

-- only operation 1 fails
abbrev second_fails : Counts
second_fails = started (record { fail = Some 1; stop = None })

first_done : fails second_fails ≡ false
first_done = refl

second_failed : fails (operation_counted second_fails) ≡ true
second_failed = refl

third_done : fails (operation_counted (operation_counted second_fails)) ≡ false
third_done = refl

-- from write 0 on every operation fails
abbrev stops_at_once : Counts
stops_at_once = started (record { fail = None; stop = Some 0 })

read_before : fails stops_at_once ≡ false
read_before = refl

write_stopped : write_fails stops_at_once ≡ true
write_stopped = refl

nothing_after : fails (write_counted stops_at_once) ≡ true
nothing_after = refl

-- Sector 0 is synced; sector 1 held zeros at the last sync, and ones were written there since.
abbrev zeros : List ℕ
zeros = replicate 512 0

abbrev ones : List ℕ
ones = replicate 512 1

abbrev sevens : List ℕ
sevens = replicate 512 7

abbrev reads : List (List ℕ)
reads = zeros ∷ (ones ∷ [])

abbrev dirty : List Bool
dirty = false ∷ (true ∷ [])

-- a crash may leave any 512 bytes in sector 1
torn : MayLeave reads dirty (zeros ∷ (sevens ∷ []))
torn = record { sectors = refl; in_sync = in_sync; torn = whole }
  where
    in_sync : (n : ℕ) → get_or dirty n false ≡ false → get_or (zeros ∷ (sevens ∷ [])) n [] ≡ get_or reads n []
    in_sync zero is = refl
    in_sync (suc zero) is = absurd cc
    in_sync (suc (suc n)) is = refl

    whole : (n : ℕ) → get_or dirty n false ≡ true → IsSector (get_or (zeros ∷ (sevens ∷ [])) n [])
    whole zero is = absurd cc
    whole (suc zero) is = replicate_whole 7 (omega arith)
    whole (suc (suc n)) is = absurd cc

-- a crash leaves sector 0 as it is
kept : MayLeave reads dirty (ones ∷ (ones ∷ [])) → ⊥
kept left = let same : 1 ≡ 0 = ap (λ (l : List ℕ). get_or l 0 0) (left.in_sync 0 refl) in omega (arith, same)

module _ (sound : IsDisk reads dirty) where
  abbrev written : MemoryState
  written = record { reads = reads; synced = zeros ∷ (zeros ∷ []); attempted = reads; dirty = dirty; sound = sound; past = []; counts = second_fails }

  old_left : crash_content Old written 1 ≡ zeros
  old_left = refl

  new_left : crash_content New written 1 ≡ ones
  new_left = refl

  filled : crash_content (Fill 7) written 1 ≡ sevens
  filled = refl

  synced_left : crash_content (Fill 7) written 0 ≡ zeros
  synced_left = refl

  cut_left : crash_content (Cut 100) written 1 ≡ replicate 100 1 ++ replicate 412 0
  cut_left = refl

  not_cut : crash_content (Cut 0) written 1 ≡ zeros
  not_cut = refl
