-- The text of the items of a list that pass a test, one after another.
use Rattle.std.proofs.Common.{arith, suc, ◌-◌, ◌∷◌, replicate, ℕ, ◌+◌, ◌<◌, List, ◌++◌, length, drop, filter, flat_map, get_or, Bool, true, false, refl, sym, [], ◌≡◌, ◌∙◌, Option, Result, Ok, Err}
use Rattle.std.proofs.lemmas.List.{append-nil}
use Rattle.eventkey.proofs.Lists.{drop_here}
use Rattle.eventkey.proofs.Writers.{HasWritten, writes_broken, writes_end, written_next}
use Rattle.eventkey.specs.Writing.{Writes}

module _ {X : Type 0} (f : X → List ℕ) (p : X → Bool) where
  -- if item i passes, the text from item i on begins with that of item i
  pub filter-here : (xs : List X) (i : ℕ) (x : X) → i < length xs → x ≡ get_or xs i x → p x ≡ true
      → flat_map f (filter p (drop i xs)) ≡ f x ++ flat_map f (filter p (drop (i + 1) xs))
  filter-here xs i x l is selected = rw (drop_here xs i x l is, selected) refl

  -- if it does not, the text from item i on is that of the items after it
  pub filter-passed : (xs : List X) (i : ℕ) (x : X) → i < length xs → x ≡ get_or xs i x → p x ≡ false
      → flat_map f (filter p (drop i xs)) ≡ flat_map f (filter p (drop (i + 1) xs))
  filter-passed xs i x l is other = rw (drop_here xs i x l is, other) refl

-- the last piece of a text
module _ {T E : Type 0} {old mid new : Option (List ℕ)} {text rest : List ℕ} where
  pub writes_last : (r : Result T E) (a : List ℕ) → HasWritten old mid text rest → rest ≡ a → Writes mid new r a → Writes old new r text
  writes_last (Ok x) a h e k = writes_end x refl (written_next [] h (e ∙ sym (append-nil a)) k refl)
  writes_last (Err y) a h e k = writes_broken [] (Err y) h (e ∙ sym (append-nil a)) k refl refl

-- the remaining blanks are one blank and those after it
pub blanks_more : (count k : ℕ) → k < count → replicate {A = ℕ} (count - k) 32 ≡ (32 ∷ []) ++ replicate (count - (k + 1)) 32
blanks_more count k l = let e : count - k ≡ suc (count - (k + 1)) = omega arith in rw e refl
