-- The count of a kind that is set.
use Rattle.std.specs.Prelude.{IfOk}
use Rattle.std.proofs.Common.{Global, Vec, Result, Ok, Err, ◌≡◌, ℕ, suc, ◌+◌, List, ◌∷◌, true, false, codes, drop, map, set, subst, sym, arith}
use Rattle.toml.specs.Data.{Data, Items}
use Rattle.toml.specs.View.{array_view, items_of, items_view, view}
use Rattle.toml.specs.declared.value.Value.{Value}
use Rattle.texts.specs.Settings.{IsCountAmong, here, behind, IsTableReplaced, is_kind}

-- what is set among the kinds from a place on is set among all of them
abbrev pub IsSetBehind : (name text : List ℕ) (place : ℕ) (kinds : List Value) → Type 0
IsSetBehind name text place kinds = (k : ℕ) (v : Data) →
    IsCountAmong name text (items_view (drop place kinds)) (items_of (set (map view (drop place kinds)) k v)) →
    IsCountAmong name text (items_view kinds) (items_of (set (map view kinds) (place + k) v))

pub behind_more : (name text : List ℕ) (place : ℕ) (kinds : List Value) (kind : Value) → drop place kinds ≡ kind ∷ drop (place + 1) kinds →
    is_kind name (view kind) ≡ false → IsSetBehind name text place kinds → IsSetBehind name text (place + 1) kinds
behind_more name text place kinds kind split other all = λ k v more.
    let same : place + suc k ≡ place + 1 + k = omega arith in
    subst (λ i. IsCountAmong name text (items_view kinds) (items_of (set (map view kinds) i v))) same
    (all (suc k) v (subst (λ vs. IsCountAmong name text (items_view vs) (items_of (set (map view vs) (suc k) v))) (sym split)
    (behind (view kind) (items_view (drop (place + 1) kinds)) (items_of (set (map view (drop (place + 1) kinds)) k v)) other more)))

pub is_set : (name text : List ℕ) (place : ℕ) (kinds : List Value) (kind : Value) (v : Data) → drop place kinds ≡ kind ∷ drop (place + 1) kinds →
    is_kind name (view kind) ≡ true → IsTableReplaced (codes "count") text (view kind) v → IsSetBehind name text place kinds →
    IsCountAmong name text (items_view kinds) (items_of (set (map view kinds) place v))
is_set name text place kinds kind v split named replaced all =
    let same : place + 0 ≡ place = omega arith in
    subst (λ i. IsCountAmong name text (items_view kinds) (items_of (set (map view kinds) i v))) same
    (all 0 v (subst (λ vs. IsCountAmong name text (items_view vs) (items_of (set (map view vs) 0 v))) (sym split)
    (here (view kind) v (items_view (drop (place + 1) kinds)) named replaced)))

-- so it is in a copy with one value replaced
pub in_copy : {E : Type 0} (name text : List ℕ) (before after : Items) (r : Result (Vec Value Global) E) → IsCountAmong name text before after →
    IfOk r (λ all. array_view all ≡ after) → IfOk r (λ all. IsCountAmong name text before (array_view all))
in_copy name text before after (Ok all) counted same = subst (IsCountAmong name text before) (sym same) counted
in_copy name text before after (Err e) counted same = tt
