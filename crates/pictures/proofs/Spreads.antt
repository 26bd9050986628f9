-- Values in ascending order, from how often each came.
use Rattle.std.specs.BTreeMap.{IsOrdered, get, insert_entry, is_at}
use Rattle.std.specs.Cmp.{nat_cmp_total, ranks}
use Rattle.std.specs.List.{AllByRecursion as Every}
use Rattle.std.specs.List.Sorted.{IsPermutation, IsSorted, IsStrictlySortedBy}
use Rattle.std.specs.Map.{keys_of, lookup}
use Rattle.std.specs.Ordering.{MatchOrdering, is_eq, is_lt, match_ordering, nat_cmp}
use Rattle.std.specs.declared.cmp.Ordering.{Ordering}
use Rattle.std.specs.declared.cmp.Ordering.TheVariants.{Equal, Greater, Less}
use Rattle.std.proofs.Common.{◌≡◌, ◌+◌, ◌-◌, ◌/◌, ◌<◌, ◌≤◌, ◌++◌, ◌∷◌, [], ℕ, List, Option, Some, ap, arith, cond, false, get_or, length, refl, replicate, subst, suc, sym, unwrap_or, zero, ◌∙◌}
use Rattle.std.proofs.lemmas.List.{length-append}
use Rattle.std.proofs.lemmas.List.Sorted.{IsPermutation-append_right, IsPermutation-middle, IsPermutation-push_more, IsPermutation-refl, IsPermutation-sym, IsPermutation-trans, length_permutation}
use Rattle.std.proofs.lemmas.Map.{lookup-none}
use Rattle.std.proofs.lemmas.Map.Entries.{none_below_head}
use Rattle.eventkey.proofs.Lists.{Every-get_or}
use Rattle.pictures.specs.Delays.{AreCounted, expanded}
use Rattle.pictures.specs.Figures.{IsSpread}
use Rattle.pictures.specs.declared.counted.Spread.{Spread}
use Rattle.pictures.specs.declared.delays.Delays.{Delays}

-- 1. One more

compared : (x y : ℕ) (o : Ordering) → nat_cmp x y ≡ o → MatchOrdering o (x < y) (x ≡ y) (y < x)
compared x y o e = subst (λ r. MatchOrdering r (x < y) (x ≡ y) (y < x)) e (ranks x y)

-- these counts are the others with one more k
abbrev IsMore : ℕ → List (ℕ × ℕ) → List (ℕ × ℕ) → Type 0
IsMore k es fs = IsPermutation (k ∷ expanded es) (expanded fs)

-- a count that is raised has its value once more
expanded_more : (es : List (ℕ × ℕ)) (k n : ℕ) → IsStrictlySortedBy nat_cmp (keys_of es) → n ≡ unwrap_or (lookup (is_at (nat_cmp k)) es) 0
    → IsPermutation (k ∷ expanded es) (expanded (insert_entry nat_cmp es k (n + 1)))
unfolding IsStrictlySortedBy
expanded_more [] k n up is = subst (λ c. IsPermutation (k ∷ []) (expanded ((k, c + 1) ∷ []))) (sym is) (IsPermutation-refl (k ∷ []))
expanded_more (e ∷ es) k n up is = go (expanded_more es k n up.1) (nat_cmp k e.0) refl
  where
    found : (o : Ordering) → nat_cmp k e.0 ≡ o → n ≡ unwrap_or (cond (is_eq o) (Some e.1) (lookup (is_at (nat_cmp k)) es)) 0
    found o f = is ∙ ap (λ r. unwrap_or (cond (is_eq r) (Some e.1) (lookup (is_at (nat_cmp k)) es)) 0) f

    put : (o : Ordering) → nat_cmp k e.0 ≡ o → insert_entry nat_cmp (e ∷ es) k (n + 1) ≡ match_ordering o ((k, n + 1) ∷ e ∷ es) ((e.0, n + 1) ∷ es) (e ∷ insert_entry nat_cmp es k (n + 1))
    put o f = ap (λ r. match_ordering r ((k, n + 1) ∷ e ∷ es) ((e.0, n + 1) ∷ es) (e ∷ insert_entry nat_cmp es k (n + 1))) f

    go : (n ≡ unwrap_or (lookup (is_at (nat_cmp k)) es) 0 → IsMore k es (insert_entry nat_cmp es k (n + 1))) → (o : Ordering) → nat_cmp k e.0 ≡ o → IsMore k (e ∷ es) (insert_entry nat_cmp (e ∷ es) k (n + 1))
    go more Less f =
        let none : n ≡ 0 = is ∙ ap (λ (o : Option ℕ). unwrap_or o 0) (lookup-none (is_at (nat_cmp k)) (e ∷ es) (none_below_head nat_cmp_total k e es up f)) in
        subst (IsMore k (e ∷ es)) (sym (put Less f)) (subst (λ c. IsMore k (e ∷ es) ((k, c + 1) ∷ e ∷ es)) (sym none) (IsPermutation-refl (k ∷ expanded (e ∷ es))))
    go more Equal f =
        let n_is : n ≡ e.1 = found Equal f in
        let k_is : k ≡ e.0 = compared k e.0 Equal f in
        let one : n + 1 ≡ suc e.1 = omega arith in
        subst (IsMore k (e ∷ es)) (sym (put Equal f)) (subst (λ c. IsPermutation (k ∷ expanded (e ∷ es)) (replicate c e.0 ++ expanded es)) (sym one)
        (subst (λ j. IsPermutation (j ∷ expanded (e ∷ es)) (e.0 ∷ expanded (e ∷ es))) (sym k_is) (IsPermutation-refl (e.0 ∷ expanded (e ∷ es)))))
    go more Greater f =
        let front : List ℕ = replicate e.1 e.0 in
        let rest : List ℕ = expanded es in
        let raised : List ℕ = expanded (insert_entry nat_cmp es k (n + 1)) in
        subst (IsMore k (e ∷ es)) (sym (put Greater f)) (IsPermutation-trans (k ∷ (front ++ rest)) (front ++ k ∷ rest) (front ++ raised)
        (IsPermutation-sym (front ++ k ∷ rest) (k ∷ (front ++ rest)) (IsPermutation-middle front k rest))
        (IsPermutation-append_right front (k ∷ rest) raised (more (found Greater f))))

pub counted_more : (values : List ℕ) (old new : Delays) (k n : ℕ) → AreCounted values old → n ≡ unwrap_or (get nat_cmp old.counts k) 0 + 1
    → new.counts.entries ≡ insert_entry nat_cmp old.counts.entries k n → IsOrdered nat_cmp new.counts → new.total ≡ old.total + 1 → AreCounted (values ++ k ∷ []) new
unfolding expanded_more
counted_more values old new k n is count put up one =
    let before : ℕ = unwrap_or (get nat_cmp old.counts k) 0 in
    let entries : new.counts.entries ≡ insert_entry nat_cmp old.counts.entries k (before + 1) = put ∙ ap (insert_entry nat_cmp old.counts.entries k) count in
    record {
      ordered = up;
      same = IsPermutation-push_more values (expanded old.counts.entries) (expanded new.counts.entries) k is.same
          (subst (λ es. IsPermutation (k ∷ expanded old.counts.entries) (expanded es)) (sym entries) (expanded_more old.counts.entries k before is.ordered refl));
      total = omega (arith, is.total, one, length-append values (k ∷ []));
    }

-- 2. Order

not_less : (a b : ℕ) → a ≤ b → is_lt (nat_cmp b a) ≡ false
not_less a b le = go (nat_cmp b a) (ranks b a)
  where
    go : (o : Ordering) → MatchOrdering o (b < a) (b ≡ a) (a < b) → is_lt o ≡ false
    go Less h = absurd (omega (arith, h))
    go Equal h = refl
    go Greater h = refl

sorted_cons : (x : ℕ) (xs : List ℕ) → Every (λ (y : ℕ). x ≤ y) xs → IsSorted nat_cmp xs → IsSorted nat_cmp (x ∷ xs)
sorted_cons x xs above up = go
  where
    go : IsSorted nat_cmp (x ∷ xs)
    go zero d low inside = not_less x (get_or xs 0 d) (Every-get_or (λ (y : ℕ). x ≤ y) xs 0 d (omega arith) above)
    go (suc k) d low inside =
        let one : suc k + 1 ≡ suc (k + 1) = omega arith in
        ap (λ j. is_lt (nat_cmp (get_or (x ∷ xs) j d) (get_or xs k d))) one ∙ up k d (omega arith) (omega arith)

above_front : (n d : ℕ) (xs : List ℕ) → Every (λ (y : ℕ). d ≤ y) xs → Every (λ (y : ℕ). d ≤ y) (replicate n d ++ xs)
above_front zero d xs above = above
above_front (suc n) d xs above = (omega arith, above_front n d xs above)

sorted_front : (n d : ℕ) (xs : List ℕ) → Every (λ (y : ℕ). d ≤ y) xs → IsSorted nat_cmp xs → IsSorted nat_cmp (replicate n d ++ xs)
sorted_front zero d xs above up = up
sorted_front (suc n) d xs above up = sorted_cons d (replicate n d ++ xs) (above_front n d xs above) (sorted_front n d xs above up)

above_low : (n d k : ℕ) (xs : List ℕ) → d ≤ k → Every (λ (y : ℕ). d ≤ y) xs → Every (λ (y : ℕ). d ≤ y) (replicate n k ++ xs)
above_low zero d k xs le above = above
above_low (suc n) d k xs le above = (le, above_low n d k xs le above)

expanded_above : (d : ℕ) (es : List (ℕ × ℕ)) → Every (λ (y : ℕ). nat_cmp d y ≡ Less) (keys_of es) → Every (λ (y : ℕ). d ≤ y) (expanded es)
expanded_above d [] h = tt
expanded_above d (e ∷ es) h =
    let below : d < e.0 = compared d e.0 Less h.0 in
    above_low e.1 d e.0 (expanded es) (omega arith) (expanded_above d es h.1)

expanded_sorted : (es : List (ℕ × ℕ)) → IsStrictlySortedBy nat_cmp (keys_of es) → IsSorted nat_cmp (expanded es)
unfolding IsStrictlySortedBy
expanded_sorted [] up = λ k d low inside. absurd (omega arith)
expanded_sorted (e ∷ es) up = sorted_front e.1 e.0 (expanded es) (expanded_above e.0 es up.0) (expanded_sorted es up.1)

-- 3. The figures of all values

pub spread_is : (values : List ℕ) (d : Delays) (s : Spread) → AreCounted values d → s.least ≡ get_or (expanded d.counts.entries) 0 0
    → s.median ≡ get_or (expanded d.counts.entries) ((d.total - 1) / 2) 0 → s.most ≡ get_or (expanded d.counts.entries) (d.total - 1) 0 → IsSpread values s
spread_is values d s is least median most =
    let long : length (expanded d.counts.entries) ≡ d.total = length_permutation values (expanded d.counts.entries) is.same ∙ sym is.total in
    record {
      sorted = expanded d.counts.entries;
      ascending = expanded_sorted d.counts.entries is.ordered;
      same = is.same;
      least = least;
      median = median ∙ ap (λ n. get_or (expanded d.counts.entries) ((n - 1) / 2) 0) (sym long);
      most = most ∙ ap (λ n. get_or (expanded d.counts.entries) (n - 1) 0) (sym long);
    }
