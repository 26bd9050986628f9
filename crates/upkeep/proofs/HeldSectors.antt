-- The sectors of a disk of which memory holds only some.
use Rattle.std.proofs.Common.{◌≡◌, ◌<◌, ◌≤◌, ⊎_elim, subst, ◌++◌, ◌∷◌, ◌∙◌, ℕ, suc, Bool, true, false, List, [], length, get_or, set, map, refl, sym, ap, arith}
use Rattle.std.specs.Prelude.{nat_lt, replicate}
use Rattle.std.proofs.lemmas.List.{get_or-map, get_or_append_left, get_or_push, length-append, length-map, map-set}
use Rattle.std.proofs.lemmas.Bool.{cases_lt}
use Rattle.disk.specs.Disk.{IsSector}
use Rattle.eventkey.proofs.Lists.{map-replicate}
use Rattle.upkeep.specs.Part.{AreSectors}

-- one more sector is kept: no other content changes
pub one_more : (places : List ℕ) (kept more : List (List ℕ)) → ((n : ℕ) → get_or places n 0 < length kept) → map (λ p. get_or (kept ++ more) p []) places ≡ map (λ p. get_or kept p []) places
one_more [] kept more within = refl
one_more (p ∷ places) kept more within =
    ap (λ x. x ∷ map (λ q. get_or (kept ++ more) q []) places) (get_or_append_left kept more [] p (within 0))
    ∙ ap (λ l. get_or kept p [] ∷ l) (one_more places kept more (λ n. within (suc n)))

pub none_items : (count : ℕ) (places : List ℕ) (kept : List (List ℕ)) (zeros : List ℕ) → places ≡ replicate count 0 → kept ≡ zeros ∷ [] → map (λ p. get_or kept p []) places ≡ replicate count zeros
none_items count places kept zeros none is =
    ap (map (λ p. get_or kept p [])) none ∙ map-replicate (λ p. get_or kept p []) count 0
    ∙ ap (λ (l : List (List ℕ)). replicate count (get_or l 0 [])) is

pub none_held : (count : ℕ) (places : List ℕ) → places ≡ replicate count 0 → map (λ p. nat_lt 0 p) places ≡ replicate count false
none_held count places none = ap (map (λ p. nat_lt 0 p)) none ∙ map-replicate (λ p. nat_lt 0 p) count 0

pub put_items : (places : List ℕ) (kept new : List (List ℕ)) (n place : ℕ) (sector : List ℕ) → ((k : ℕ) → get_or places k 0 < length kept) → new ≡ kept ++ sector ∷ [] → place ≡ length kept → map (λ p. get_or new p []) (set places n place) ≡ set (map (λ p. get_or kept p []) places) n sector
put_items places kept new n place sector within is at =
    ap (λ (l : List (List ℕ)). map (λ p. get_or l p []) (set places n place)) is
    ∙ map-set (λ p. get_or (kept ++ sector ∷ []) p []) places n place
    ∙ ap (λ x. set (map (λ p. get_or (kept ++ sector ∷ []) p []) places) n x) (get_or_push kept sector [] place (sym at))
    ∙ ap (λ l. set l n sector) (one_more places kept (sector ∷ []) within)

lt_true : (p : ℕ) → 0 < p → nat_lt 0 p ≡ true
lt_true p some = grind (arith)

pub put_held : (places : List ℕ) (n place : ℕ) → 0 < place → map (λ p. nat_lt 0 p) (set places n place) ≡ set (map (λ p. nat_lt 0 p) places) n true
put_held places n place some =
    map-set (λ p. nat_lt 0 p) places n place ∙ ap (λ x. set (map (λ p. nat_lt 0 p) places) n x) (lt_true place some)

-- one more sector
pub pushed_whole : (kept new : List (List ℕ)) (sector : List ℕ) → new ≡ kept ++ sector ∷ [] → AreSectors kept → IsSector sector → AreSectors new
pushed_whole kept new sector is whole one = subst AreSectors (sym is) (λ n within.
    ⊎_elim (λ (before : n < length kept). subst IsSector (sym (get_or_append_left kept (sector ∷ []) [] n before)) (whole n before))
    (λ (last : length kept ≤ n). subst IsSector (sym (get_or_push kept sector [] n (omega (arith, last, within, length-append kept (sector ∷ []))))) one)
    (cases_lt n (length kept)))

pub one_whole : (new : List (List ℕ)) (sector : List ℕ) → new ≡ sector ∷ [] → IsSector sector → AreSectors new
one_whole new sector is one = pushed_whole [] new sector is (λ n within. absurd (omega (arith, within))) one

-- each sector is one that is kept
pub held_whole : (places : List ℕ) (kept : List (List ℕ)) → ((n : ℕ) → get_or places n 0 < length kept) → AreSectors kept → AreSectors (map (λ p. get_or kept p []) places)
held_whole places kept within whole = λ n there.
    subst IsSector (sym (get_or-map (λ p. get_or kept p []) places n 0 [] (omega (arith, there, length-map places (λ p. get_or kept p [])))))
    (whole (get_or places n 0) (within n))
