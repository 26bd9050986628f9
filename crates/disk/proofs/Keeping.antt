-- Lists of sectors of which memory keeps only the first ones.
use Rattle.std.specs.Prelude.{replicate}
use Rattle.std.proofs.Common.{◌≡◌, ◌≢◌, ⊎_elim, ℕ, suc, ◌+◌, ◌-◌, ◌<◌, ◌≤◌, List, [], ◌∷◌, ◌++◌, length, get_or, set, take, refl, sym, ◌∙◌, ap, arith}
use Rattle.std.proofs.lemmas.List.{append_assoc, append-nil, ext_get_or, length-append, length-replicate, length-set, get_or_append_left, get_or-append_right, get_or-replicate}
use Rattle.std.proofs.lemmas.List.{get_or-set_same, get_or-set_other, set-append_left, take-append-le, take_all, replicate-append-replicate}
use Rattle.std.proofs.lemmas.Bool.{cases_eq}
use Rattle.disk.specs.Growth.{zero_sectors, grown_to}

abbrev pub zero_sector : List ℕ
zero_sector = replicate 512 0

-- all sectors: the kept ones, and zeros after them
abbrev pub all_of : ℕ → List (List ℕ) → List (List ℕ)
all_of count kept = kept ++ zero_sectors (count - length kept)

pub length-zeros : (n : ℕ) → length (zero_sectors n) ≡ n
length-zeros n = length-replicate n zero_sector

pub length-all : (count : ℕ) (kept : List (List ℕ)) → length kept ≤ count → length (all_of count kept) ≡ count
length-all count kept within = omega (arith, within, length-append kept (zero_sectors (count - length kept)), length-zeros (count - length kept))

-- the sectors after the kept ones are zeros
pub behind : (count : ℕ) (kept : List (List ℕ)) (n : ℕ) → length kept ≤ n → n < count → get_or (all_of count kept) n [] ≡ zero_sector
behind count kept n past within =
    get_or-append_right kept (zero_sectors (count - length kept)) (length kept) n [] refl past
    ∙ get_or-replicate (count - length kept) (n - length kept) zero_sector [] (omega (arith, past, within))

pub first : (count : ℕ) (kept : List (List ℕ)) (n : ℕ) → n < length kept → get_or (all_of count kept) n [] ≡ get_or kept n []
first count kept n within = get_or_append_left kept (zero_sectors (count - length kept)) [] n within

-- keeping one more sector changes no content
pub one_more : (count : ℕ) (kept : List (List ℕ)) → length kept < count → all_of count (kept ++ zero_sector ∷ []) ≡ all_of count kept
one_more count kept within =
    let size : length (kept ++ zero_sector ∷ []) ≡ length kept + 1 = length-append kept (zero_sector ∷ []) in
    let left : count - length kept ≡ suc (count - (length kept + 1)) = omega (arith, within) in
    append_assoc kept (zero_sector ∷ []) (zero_sectors (count - length (kept ++ zero_sector ∷ [])))
    ∙ ap (λ n. kept ++ (zero_sector ∷ zero_sectors (count - n))) size
    ∙ ap (λ n. kept ++ zero_sectors n) (sym left)

-- setting a kept sector
pub set_kept : (count : ℕ) (kept : List (List ℕ)) (n : ℕ) (sector : List ℕ) → n < length kept → all_of count (set kept n sector) ≡ set (all_of count kept) n sector
set_kept count kept n sector within =
    ap (λ k. set kept n sector ++ zero_sectors (count - k)) (length-set kept n sector)
    ∙ sym (set-append_left kept (zero_sectors (count - length kept)) n sector within)

-- setting a sector that is not kept to zeros changes nothing
pub set_zero : (count : ℕ) (kept : List (List ℕ)) (n : ℕ) (sector : List ℕ) → length kept ≤ n → n < count → sector ≡ zero_sector → all_of count kept ≡ set (all_of count kept) n sector
set_zero count kept n sector past within is =
    ext_get_or [] (all_of count kept) (set (all_of count kept) n sector) (sym (length-set (all_of count kept) n sector))
    (λ k there. ⊎_elim
    (λ (same : k ≡ n). ap (λ i. get_or (all_of count kept) i []) same ∙ behind count kept n past within ∙ sym is
    ∙ sym (ap (λ i. get_or (set (all_of count kept) n sector) i []) same ∙ get_or-set_same (all_of count kept) n sector [] (omega (arith, there, same))))
    (λ (other : k ≢ n). sym (get_or-set_other (all_of count kept) n k sector [] other)) (cases_eq k n))

-- growing the list by zeros
pub grow_kept : (old count : ℕ) (kept : List (List ℕ)) → length kept ≤ old → old ≤ count → all_of count kept ≡ grown_to count (all_of old kept)
grow_kept old count kept within more =
    let sum : count - length kept ≡ (old - length kept) + (count - old) = omega (arith, within, more) in
    ap (λ n. kept ++ zero_sectors n) sum
    ∙ ap (λ (l : List (List ℕ)). kept ++ l) (sym (replicate-append-replicate (old - length kept) (count - old) zero_sector))
    ∙ sym (append_assoc kept (zero_sectors (old - length kept)) (zero_sectors (count - old)))
    ∙ ap (λ n. all_of old kept ++ zero_sectors (count - n)) (sym (length-all old kept within))

pub take_kept : (count : ℕ) (kept : List (List ℕ)) → kept ≡ take (length kept) (all_of count kept)
take_kept count kept = sym (take-append-le (length kept) kept (zero_sectors (count - length kept)) (omega arith) ∙ take_all (length kept) kept (omega arith))

pub all_kept : (count : ℕ) (kept : List (List ℕ)) → count ≡ length kept → all_of count kept ≡ kept
all_kept count kept all =
    let none : count - length kept ≡ 0 = omega (arith, all) in
    ap (λ n. kept ++ zero_sectors n) none ∙ append-nil kept
