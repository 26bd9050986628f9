-- Reading many values, as a loop does: what was read before, and what is still read.
use Rattle.std.proofs.Common.{◌≡◌, ℕ, suc, ◌-◌, ◌+◌, ◌≤◌, ◌<◌, List, [], ◌∷◌, ◌++◌, Option, Some, None, refl, sym, ap, ◌∙◌, append_assoc, append-nil, arith}
use Rattle.eventkey.specs.Reading.{◌>>=◌, Reader, items_at}

abbrev pub with_front : {X : Type 0} → List X → Option (List X × List ℕ) → Option (List X × List ℕ)
with_front front read = read >>= λ x. Some (front ++ x.0, x.1)

module _ {X : Type 0} (item : Reader X) where
  regroup : (front : List X) (x : X) (read : Option (List X × List ℕ)) → with_front front (read >>= λ others. Some (x ∷ others.0, others.1)) ≡ with_front (front ++ x ∷ []) read
  regroup front x None = refl
  regroup front x (Some others) = ap (λ (xs : List X). Some (xs, others.1)) (sym (append_assoc front (x ∷ []) others.0))

  pub items_begin : (count : ℕ) (bytes : List ℕ) → with_front [] (items_at item (count - 0) bytes) ≡ items_at item count bytes
  items_begin count bytes = go (items_at item (count - 0) bytes) ∙ ap (λ (n : ℕ). items_at item n bytes) (omega arith)
    where
      go : (read : Option (List X × List ℕ)) → with_front [] read ≡ read
      go None = refl
      go (Some x) = refl

  pub items_go_on : (front : List X) (count i : ℕ) (bytes : List ℕ) (x : X) (after : List ℕ) (total : Option (List X × List ℕ)) → i < count → item bytes ≡ Some (x, after) →
      with_front front (items_at item (count - i) bytes) ≡ total → with_front (front ++ x ∷ []) (items_at item (count - (i + 1)) after) ≡ total
  unfolding items_at
  items_go_on front count i bytes x after total lt e so_far =
      let k : count - i ≡ suc (count - (i + 1)) = omega arith in
      let one : with_front front (items_at item (count - i) bytes) ≡ with_front (front ++ x ∷ []) (items_at item (count - (i + 1)) after) = rw (k, e) (regroup front x (items_at item (count - (i + 1)) after)) in
      sym one ∙ so_far

  pub items_fail : (front : List X) (count i : ℕ) (bytes : List ℕ) (total : Option (List X × List ℕ)) → i < count → item bytes ≡ None →
      with_front front (items_at item (count - i) bytes) ≡ total → total ≡ None
  unfolding items_at
  items_fail front count i bytes total lt e so_far =
      let k : count - i ≡ suc (count - (i + 1)) = omega arith in
      let one : with_front front (items_at item (count - i) bytes) ≡ None = rw (k, e) refl in
      sym so_far ∙ one

  pub items_done : (front : List X) (count i : ℕ) (bytes : List ℕ) (total : Option (List X × List ℕ)) → count ≤ i →
      with_front front (items_at item (count - i) bytes) ≡ total → total ≡ Some (front, bytes)
  unfolding items_at
  items_done front count i bytes total le so_far =
      let k : count - i ≡ 0 = omega arith in
      let one : with_front front (items_at item (count - i) bytes) ≡ Some (front, bytes) = rw k (ap (λ (xs : List X). Some (xs, bytes)) (append-nil front)) in
      sym so_far ∙ one
