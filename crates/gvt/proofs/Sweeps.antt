-- One pass over transit: it moves unmarked messages to the front, clears the marks and finds the
-- least time.
use Rattle.std.proofs.Common.{ℕ, zero, suc, ◌≡◌, ◌+◌, ◌≤◌, ◌<◌, List, [], ◌∷◌, ◌++◌, Bool, true, false, Option, None, Some, length, take, drop, get_or, set, replicate, refl, ap, ◌∙◌, sym, arith}
use Rattle.std.proofs.lemmas.List.{length-replicate, length-take, take_all, take_more_set}
use Rattle.eventkey.specs.declared.Signed.{Signed}
use Rattle.node.specs.Node.{earliest}
use Rattle.gvt.proofs.Floors.{low_in-append}
use Rattle.gvt.proofs.Marks.{IsKeptInPlace, kept-marked, kept-unmarked, kept-none}
use Rattle.gvt.specs.Marks.{unmarked}
use Rattle.gvt.specs.Picks.{not_picked}
use Rattle.gvt.specs.Times.{low_in}

-- the first i marks cleared
abbrev pub cleared : ℕ → List Bool → List Bool
cleared i marks = replicate i false ++ drop i marks

none_cleared : (marks : List Bool) → cleared 0 marks ≡ marks
none_cleared [] = refl
none_cleared (m ∷ ms) = refl

cleared-at : (marks : List Bool) (i : ℕ) → i < length marks → get_or (cleared i marks) i false ≡ get_or marks i false
cleared-at [] i l = absurd (omega arith)
cleared-at (m ∷ ms) zero l = refl
cleared-at (m ∷ ms) (suc i) l = cleared-at ms i (omega arith)

cleared-set : (marks : List Bool) (i : ℕ) → i < length marks → set (cleared i marks) i false ≡ cleared (suc i) marks
cleared-set [] i l = absurd (omega arith)
cleared-set (m ∷ ms) zero l = ap (λ (xs : List Bool). false ∷ xs) (sym (none_cleared ms))
cleared-set (m ∷ ms) (suc i) l = ap (λ (xs : List Bool). false ∷ xs) (cleared-set ms i (omega arith))

cleared-clear : (marks : List Bool) (i : ℕ) → i < length marks → get_or marks i false ≡ false → cleared i marks ≡ cleared (suc i) marks
cleared-clear [] i l e = absurd (omega arith)
cleared-clear (m ∷ ms) zero l e = ap (λ (b : Bool). b ∷ ms) e ∙ ap (λ (xs : List Bool). false ∷ xs) (sym (none_cleared ms))
cleared-clear (m ∷ ms) (suc i) l e = ap (λ (xs : List Bool). false ∷ xs) (cleared-clear ms i (omega arith) e)

pub cleared-all : (marks : List Bool) (i : ℕ) → length marks ≤ i → i ≤ length marks → cleared i marks ≡ replicate (length marks) false
cleared-all [] zero l k = refl
cleared-all [] (suc i) l k = absurd (omega arith)
cleared-all (m ∷ ms) zero l k = absurd (omega arith)
cleared-all (m ∷ ms) (suc i) l k = ap (λ (xs : List Bool). false ∷ xs) (cleared-all ms i (omega arith) (omega arith))

-- the first i places are swept, and the k unmarked messages among them are in front
pub record IsSwept (before : List Bool) (old : List Signed) (marks : List Bool) (now : List Signed) (k i : ℕ) (least : Option ℕ) : Type 0 where
  pub in_place : IsKeptInPlace before old now k i
  pub clear : marks ≡ cleared i before
  pub least_is : least ≡ low_in (take k now)

pub swept-none : (before : List Bool) (old : List Signed) → IsSwept before old before old 0 0 None
swept-none before old = record { in_place = kept-none before old; clear = sym (none_cleared before); least_is = refl }

module _ {before : List Bool} {old : List Signed} {marks : List Bool} {now : List Signed} {k i : ℕ} {least : Option ℕ} (h : IsSwept before old marks now k i least) (within : i < length before) (same : length before ≡ length old) where
  as_before : get_or marks i false ≡ get_or before i false
  as_before = ap (λ (ms : List Bool). get_or ms i false) h.clear ∙ cleared-at before i within

  pub swept-marked : (x : Signed) → get_or marks i false ≡ true → IsSwept before old (set marks i false) now k (i + 1) least
  swept-marked x e = record {
    in_place = kept-marked before old now k i x h.in_place within same (sym as_before ∙ e);
    clear = ap (λ (ms : List Bool). set ms i false) h.clear ∙ cleared-set before i within ∙ ap (λ n. cleared n before) {x = suc i} {y = i + 1} (omega arith);
    least_is = h.least_is;
  }

  pub swept-unmarked : (x : Signed) (least' : Option ℕ) → get_or marks i false ≡ false → x ≡ get_or now i x → least' ≡ earliest least (Some x.message.time) → IsSwept before old marks (set now k x) (k + 1) (i + 1) least'
  swept-unmarked x least' e read is =
      let fine = sym as_before ∙ e in
      let long = h.in_place.long in
      let behind = h.in_place.behind in
      record {
        in_place = kept-unmarked before old now k i x h.in_place within same fine read;
        clear = h.clear ∙ cleared-clear before i within fine ∙ ap (λ n. cleared n before) {x = suc i} {y = i + 1} (omega arith);
        least_is = is ∙ ap (λ (l : Option ℕ). earliest l (Some x.message.time)) h.least_is ∙ sym (low_in-append (take k now) (x ∷ [])) ∙ sym (ap low_in (take_more_set now k x (omega arith)));
      }

pub swept_all : {before : List Bool} {old : List Signed} {marks : List Bool} {now : List Signed} {k i : ℕ} {least : Option ℕ} → IsSwept before old marks now k i least → length before ≡ length old → length before ≤ i → take k now ≡ unmarked before old
swept_all {before} {old} {marks} {now} {k} {i} h same all = h.in_place.front ∙ ap (λ (ms : List Bool). unmarked ms (take i old)) (take_all i before all) ∙ ap (unmarked before) (take_all i old (omega arith))

-- no picks remove nothing
pub not_picked-none : (i : ℕ) (ss : List Signed) → not_picked [] i ss ≡ ss
not_picked-none i [] = refl
not_picked-none i (s ∷ ss) = ap (λ (xs : List Signed). s ∷ xs) (not_picked-none (i + 1) ss)

pub no_picks : (picks : List ℕ) (ss : List Signed) → length picks ≡ 0 → ss ≡ not_picked picks 0 ss
no_picks [] ss e = sym (not_picked-none 0 ss)
no_picks (p ∷ ps) ss e = absurd (omega arith)

-- Truncated after the places that are kept

take_seam : {X : Type 0} (xs rest : List X) → take (length xs) (xs ++ rest) ≡ xs
take_seam [] rest = refl
take_seam (x ∷ xs) rest = ap (λ (ys : List _). x ∷ ys) (take_seam xs rest)

take_clear : (k n : ℕ) → k ≤ n → take k (replicate n false) ≡ replicate k false
take_clear zero zero l = refl
take_clear zero (suc n) l = refl
take_clear (suc k) zero l = absurd (omega arith)
take_clear (suc k) (suc n) l = ap (λ (ys : List Bool). false ∷ ys) (take_clear k n (omega arith))

pub clear_cut : (marks now rest : List Bool) (k len n m : ℕ) → marks ≡ take k (take len (now ++ rest)) → now ≡ replicate n false → len ≡ n → k ≤ n → m ≡ k → marks ≡ replicate m false
clear_cut marks now rest k len n m is clear same within long =
    let size : len ≡ length now = same ∙ sym (ap length clear ∙ length-replicate n false) in
    is
    ∙ ap (take k) (ap (λ j. take j (now ++ rest)) size ∙ take_seam now rest ∙ clear)
    ∙ take_clear k n within
    ∙ ap (λ j. replicate j false) (sym long)

pub length_cut : (messages now rest : List Signed) (k len : ℕ) → messages ≡ take k (take len (now ++ rest)) → len ≡ length now → k ≤ length now → length messages ≡ k
length_cut messages now rest k len is same within =
    ap length (is ∙ ap (take k) (ap (λ j. take j (now ++ rest)) same ∙ take_seam now rest)) ∙ length-take k now ∙ omega arith
