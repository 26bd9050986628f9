-- The span of the dirty sectors.
use Rattle.std.proofs.Common.{◌≡◌, ◌≢◌, ◌⊎◌, ⊎_elim, ℕ, ◌+◌, ◌<◌, ◌≤◌, Bool, true, false, List, length, get_or, set, sym, ◌∙◌, ap, arith}
use Rattle.std.proofs.lemmas.List.{get_or-set_same, get_or-set_other}
use Rattle.std.proofs.lemmas.Bool.{cases_Bool, cases_eq}
use Rattle.disk.specs.Disk.{IsSpan, IsSynced}

false_true : (b : Bool) → b ≡ false → b ≡ true → ⊥
false_true b f t = cc

-- a sector outside the span is not dirty
pub outside : (first end : ℕ) (dirty : List Bool) (k : ℕ) → IsSpan first end dirty → (k < first) ⊎ (end ≤ k) → get_or dirty k false ≡ false
outside first end dirty k span out = ⊎_elim
    (λ (t : get_or dirty k false ≡ true). let s = span.spans k t in absurd (⊎_elim (λ (before : k < first). omega (arith, s.0, before)) (λ (past : end ≤ k). omega (arith, s.1, past)) out))
    (λ (f : get_or dirty k false ≡ false). f) (cases_Bool (get_or dirty k false))

-- one sector of the span is synced
pub one_synced : (n end : ℕ) (dirty : List Bool) → n < length dirty → ((k : ℕ) → get_or dirty k false ≡ true → (n ≤ k) × (k < end)) → (k : ℕ) → get_or (set dirty n false) k false ≡ true → (n + 1 ≤ k) × (k < end)
one_synced n end dirty there left k t = ⊎_elim
    (λ (same : k ≡ n). absurd (false_true (get_or (set dirty n false) k false) (ap (λ i. get_or (set dirty n false) i false) same ∙ get_or-set_same dirty n false false there) t))
    (λ (other : k ≢ n). let s = left k (sym (get_or-set_other dirty n k false false other) ∙ t) in (omega (arith, s.0, other), s.1)) (cases_eq k n)

pub all_synced : (n end : ℕ) (dirty : List Bool) → end ≤ n → ((k : ℕ) → get_or dirty k false ≡ true → (n ≤ k) × (k < end)) → IsSynced dirty
all_synced n end dirty through left k = ⊎_elim (λ (t : get_or dirty k false ≡ true). let s = left k t in absurd (omega (arith, s.0, s.1))) (λ (f : get_or dirty k false ≡ false). f) (cases_Bool (get_or dirty k false))
