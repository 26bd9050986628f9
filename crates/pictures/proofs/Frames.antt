-- The labels of an axis.
use Rattle.std.proofs.Common.{◌≡◌, ℕ, ◌+◌, ◌-◌, ◌*◌, ◌/◌, ◌^◌, ◌<◌, ◌≤◌, ◌&&◌, nat_le, List, [], ◌∷◌, ◌++◌, length, get_or, drop, flat_map, Bool, true, refl, ap, ◌∙◌, arith}
use Rattle.std.proofs.lemmas.Bool.{and_parts, cond_both, leb-true}
use Rattle.std.proofs.lemmas.List.{drop_all, drop_more}
use Rattle.model.specs.World.{below}
use Rattle.model.proofs.Worlds.{get_or-below, length-below}
use Rattle.pictures.specs.Drawing.{step_from}
use Rattle.pictures.specs.declared.drawn.TheConstants.{STEPS}

-- 1. Round numbers

all_round : List ℕ → Bool
all_round [] = true
all_round (n ∷ ns) = (nat_le 1 n && nat_le n (2 ^ 40)) && all_round ns

step_in_range : (span : ℕ) (steps : List ℕ) → all_round steps ≡ true → (1 ≤ step_from span steps) × (step_from span steps ≤ 2 ^ 40)
unfolding step_from all_round
step_in_range span [] all = (omega arith, omega arith)
step_in_range span (n ∷ ns) all =
    let (here, others) = and_parts (nat_le 1 n && nat_le n (2 ^ 40)) (all_round ns) all in
    let (low, high) = and_parts (nat_le 1 n) (nat_le n (2 ^ 40)) here in
    cond_both (nat_le span (10 * n)) n (step_from span ns) (λ k. (1 ≤ k) × (k ≤ 2 ^ 40))
    (λ e. (leb-true 1 n low, leb-true n (2 ^ 40) high))
    (λ e. step_in_range span ns others)

pub steps_in_range : (span : ℕ) → (1 ≤ step_from span STEPS) × (step_from span STEPS ≤ 2 ^ 40)
unfolding all_round
steps_in_range span = step_in_range span STEPS refl

-- 2. Rows and labels, one after another

module _ {X : Type 0} (f : ℕ → List X) (n i : ℕ) where
  pub below-next : i < n → flat_map f (drop i (below n)) ≡ f i ++ flat_map f (drop (i + 1) (below n))
  below-next l = flat_map-here ∙ ap (λ k. f k ++ flat_map f (drop (i + 1) (below n))) (get_or-below n i 0 l)
    where
      flat_map-here : flat_map f (drop i (below n)) ≡ f (get_or (below n) i 0) ++ flat_map f (drop (i + 1) (below n))
      flat_map-here = rw (drop_more (below n) i 0 (omega (arith, length-below n))) refl

  pub below-done : n ≤ i → length (flat_map f (drop i (below n))) ≡ 0
  below-done l = rw (drop_all i (below n) (omega (arith, length-below n))) refl

pub first_low : (a step : ℕ) → 1 ≤ step → a / step * step ≤ a
first_low a step some = omega arith
