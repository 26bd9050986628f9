-- A buffer that is filled from its start.
use Rattle.std.proofs.Common.{◌≡◌, ℕ, ◌+◌, ◌-◌, ◌≤◌, List, ◌++◌, arith, length, take, slice_range, Option, sym, ap, ◌∙◌, subst, le_refl, drop_at, length-take-le}
use Rattle.std.proofs.lemmas.List.{length-take}
use Rattle.std.proofs.lemmas.Slice.{take-put_mid_below}
use Rattle.std.specs.Io.KnownBytes.{Consumes, Keeps}
use Rattle.std.proofs.KnownBytes.{Consumes-trans, Consumes-kept}
use borrow.Rule.Slice.PartMut.{put_mid, post_of}
use lib.Seq.{take-add, take-append-le}
use Rattle.frames.specs.Streams.{GivesUpTo}

take_split : (a b : ℕ) (old new : List ℕ) → a ≤ b → take a new ≡ take a old → take a old ++ slice_range new a b ≡ take b new
take_split a b old new h front =
    let same : a + (b - a) ≡ b = omega arith in
    ap (λ l. l ++ slice_range new a b) (sym front) ∙ sym (take-add a (b - a) new) ∙ ap (λ n. take n new) same

slice_range-put_mid : (a k n : ℕ) (xs ys : List ℕ) → a ≤ length xs → n ≤ length ys → slice_range (put_mid a k xs ys) a (a + n) ≡ take n ys
slice_range-put_mid a k n xs ys within fits =
    let same : (a + n) - a ≡ n = omega arith in
    let after = post_of a k xs in
    ap (take ((a + n) - a)) (drop_at (take a xs) (ys ++ after) a (length-take-le a xs within)) ∙ ap (λ m. take m (ys ++ after)) same ∙ take-append-le n ys after fits

-- more bytes arrived after those in the buffer
pub fill_more : (old mid new : Option (List ℕ)) (a k n : ℕ) (xs ys : List ℕ) → a ≤ length xs → n ≤ length ys → Consumes old mid (take a xs) → Consumes mid new (take n ys) →
    Consumes old new (take (a + n) (put_mid a k xs ys))
fill_more old mid new a k n xs ys within fits h more =
    let joined = take_split a (a + n) xs (put_mid a k xs ys) (omega arith) (take-put_mid_below _ _ _ _ _ (le_refl _) within) in
    subst (Consumes old new) (ap (λ l. take a xs ++ l) (sym (slice_range-put_mid a k n xs ys within fits)) ∙ joined) (Consumes-trans old mid new _ _ h more)

-- no bytes arrived, and what is after them in the buffer may have changed
pub fill_kept : (old mid new : Option (List ℕ)) (a k : ℕ) (xs ys : List ℕ) → a ≤ length xs → Consumes old mid (take a xs) → Keeps mid new → Consumes old new (take a (put_mid a k xs ys))
fill_kept old mid new a k xs ys within h kept = subst (Consumes old new) (sym (take-put_mid_below _ _ _ _ _ (le_refl _) within)) (Consumes-kept old mid new _ h kept)

-- the reader failed at this point
pub fill_stopped : (old mid new : Option (List ℕ)) (a k : ℕ) (xs ys : List ℕ) → a ≤ length xs → Consumes old mid (take a xs) → Keeps mid new → GivesUpTo (length (put_mid a k xs ys)) old new
fill_stopped old mid new a k xs ys within h kept = (take a (put_mid a k xs ys), omega (arith, length-take a (put_mid a k xs ys)), fill_kept old mid new a k xs ys within h kept)
