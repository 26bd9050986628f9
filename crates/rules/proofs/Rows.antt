-- The rows of a tree as the lists that the code sees.
use Rattle.std.proofs.Common.{Bool, ◌-◌, ◌≡◌, ◌≤◌, ◌<◌, inl, inr, min, ℕ, zero, suc, ◌+◌, ◌*◌, List, Vec, Global, true, false, max, refl, ap, sym, arith, ◌∙◌, if◌then◌else◌}
use Rattle.std.proofs.Math.Nat.{mul-le-mul_left, mul-le-mul_right}
use Rattle.std.proofs.lemmas.Bool.Decides.{nat_tests}
use Rattle.std.proofs.lemmas.Bool.{cases_lt}
use mathlib.Core.Former.{Count}
use Rattle.rules.specs.Costs.{cost, cost_of, cost_of_all, cost_of_row, draws, step_cost}
use Rattle.rules.specs.Effects.{Progress, after, after_all, after_row, asked, at_turn, is_ended, turns, turns_until}
use Rattle.rules.specs.Values.{is_true, value_of}
use Rattle.rules.specs.declared.limits.Limit.{Limit}
use Rattle.rules.specs.declared.tree.Expression.{Expression}
use Rattle.rules.specs.declared.tree.Statement.{Statement, If, Repeat, RepeatUntil, If', Repeat', RepeatUntil', Row_of-Statement, end_of-Statement, more_of-Statement, items-the_row-Statement, items_hidden-the_row-Statement-0}

module _ (tables : List (List ℕ)) where
  row-after : (n : _) (row : Row_of-Statement n) (p : Progress) →
      after_row tables row p ≡ after_all tables (items-the_row-Statement n row) p
  row-after n end_of-Statement p = refl
  row-after n (more_of-Statement x rest) p = row-after _ rest (after tables x p)

module _ (c : Limit) where
  row-cost : (n : _) (row : Row_of-Statement n) → cost_of_row c row ≡ cost_of_all c (items-the_row-Statement n row)
  row-cost n end_of-Statement = refl
  row-cost n (more_of-Statement x rest) = ap (λ m. cost_of c x + m) (row-cost _ rest)

abbrev first_row : Statement → (n : Count) × Row_of-Statement n
first_row (If' e s met t unmet) = (_, met)
first_row (Repeat' i n s body) = (_, body)
first_row (RepeatUntil' i n e s body) = (_, body)
first_row _ = (_, end_of-Statement)

abbrev second_row : Statement → (n : Count) × Row_of-Statement n
second_row (If' e s met t unmet) = (_, unmet)
second_row _ = (_, end_of-Statement)

module _ (c : Limit) where
  pub cost-If : (e : Expression) (met unmet : Vec Statement Global) →
      cost_of c (If e met unmet) ≡ step_cost c + cost c e + max (cost_of_all c met.items) (cost_of_all c unmet.items)
  cost-If e met unmet =
      let one = first_row (If e met unmet) in
      let two = second_row (If e met unmet) in
      ap (λ m. step_cost c + cost c e + max m (cost_of_row c two.1))
      (row-cost c one.0 one.1 ∙ ap (cost_of_all c) (items_hidden-the_row-Statement-0 met))
      ∙ ap (λ m. step_cost c + cost c e + max (cost_of_all c met.items) m)
      (row-cost c two.0 two.1 ∙ ap (cost_of_all c) (items_hidden-the_row-Statement-0 unmet))

  pub cost-Repeat : (place n : ℕ) (body : Vec Statement Global) →
      cost_of c (Repeat place n body) ≡ step_cost c + n * (step_cost c + cost_of_all c body.items)
  cost-Repeat place n body =
      let one = first_row (Repeat place n body) in
      ap (λ m. step_cost c + n * (step_cost c + m)) (row-cost c one.0 one.1 ∙ ap (cost_of_all c) (items_hidden-the_row-Statement-0 body))

  pub cost-RepeatUntil : (place n : ℕ) (e : Expression) (body : Vec Statement Global) →
      cost_of c (RepeatUntil place n e body) ≡ step_cost c + n * (step_cost c + cost c e + cost_of_all c body.items)
  cost-RepeatUntil place n e body =
      let one = first_row (RepeatUntil place n e body) in
      ap (λ m. step_cost c + n * (step_cost c + cost c e + m)) (row-cost c one.0 one.1 ∙ ap (cost_of_all c) (items_hidden-the_row-Statement-0 body))

turns-same : (f g : ℕ → Progress → Progress) → ((k : ℕ) (p : Progress) → f k p ≡ g k p) → (n : ℕ) (p : Progress) → turns n f p ≡ turns n g p
turns-same f g same zero p = refl
turns-same f g same (suc n) p = same n (turns n f p) ∙ ap (g n) (turns-same f g same n p)

module _ (tables : List (List ℕ)) where
  pub after-If : (e : Expression) (met unmet : Vec Statement Global) (p : Progress) →
      let q : Progress = record { context = p.context; drawn = p.drawn + draws e; sends = p.sends } in
      after tables (If e met unmet) p
      ≡ (if is_true (value_of tables p.context e p.drawn) then after_all tables met.items q else after_all tables unmet.items q)
  after-If e met unmet p =
      let q : Progress = record { context = p.context; drawn = p.drawn + draws e; sends = p.sends } in
      let b = is_true (value_of tables p.context e p.drawn) in
      let one = first_row (If e met unmet) in
      let two = second_row (If e met unmet) in
      ap (λ (r : Progress). if b then r else after_row tables two.1 q)
      (row-after tables one.0 one.1 q ∙ ap (λ xs. after_all tables xs q) (items_hidden-the_row-Statement-0 met))
      ∙ ap (λ (r : Progress). if b then after_all tables met.items q else r)
      (row-after tables two.0 two.1 q ∙ ap (λ xs. after_all tables xs q) (items_hidden-the_row-Statement-0 unmet))

  pub after-Repeat : (place n : ℕ) (body : Vec Statement Global) (p : Progress) →
      after tables (Repeat place n body) p ≡ turns n (λ k q. after_all tables body.items (at_turn place k q)) p
  after-Repeat place n body p =
      let one = first_row (Repeat place n body) in
      turns-same _ _ (λ k q. row-after tables one.0 one.1 (at_turn place k q)
      ∙ ap (λ xs. after_all tables xs (at_turn place k q)) (items_hidden-the_row-Statement-0 body)) n p

module _ (ended : ℕ → Progress → Bool) (before : ℕ → Progress → Progress) where
  until-same : (f g : Progress → Progress) → ((p : Progress) → f p ≡ g p) → (n k : ℕ) (p : Progress) →
      turns_until ended before f n k p ≡ turns_until ended before g n k p
  until-same f g same zero k p = refl
  until-same f g same (suc n) k p =
      ap (λ (q : Progress). if ended k p then before k p else q)
      (ap (turns_until ended before f n (suc k)) (same (before k p)) ∙ until-same f g same n (suc k) (g (before k p)))

  module _ (turn : Progress → Progress) where
    -- no turn is left
    pub until-done : (n k : ℕ) (p : Progress) → n ≤ k → turns_until ended before turn (n - k) k p ≡ p
    until-done n k p le = let none : n - k ≡ 0 = omega arith in ap (λ m. turns_until ended before turn m k p) none

    -- the repeat ends before a turn
    pub until-ended : (n k : ℕ) (p : Progress) → k < n → ended k p ≡ true → turns_until ended before turn (n - k) k p ≡ before k p
    until-ended n k p lt e =
        let more : n - k ≡ suc (n - (k + 1)) = omega arith in
        ap (λ m. turns_until ended before turn m k p) more
        ∙ ap (λ b. if b then before k p else turns_until ended before turn (n - (k + 1)) (suc k) (turn (before k p))) e

    -- one turn more
    pub until-more : (n k : ℕ) (p : Progress) → k < n → ended k p ≡ false →
        turns_until ended before turn (n - (k + 1)) (k + 1) (turn (before k p)) ≡ turns_until ended before turn (n - k) k p
    until-more n k p lt e =
        let more : suc (n - (k + 1)) ≡ n - k = omega arith in
        let next : k + 1 ≡ suc k = omega arith in
        ap (λ j. turns_until ended before turn (n - (k + 1)) j (turn (before k p))) next
        ∙ sym (ap (λ b. if b then before k p else turns_until ended before turn (n - (k + 1)) (suc k) (turn (before k p))) e)
        ∙ ap (λ m. turns_until ended before turn m k p) more

module _ (tables : List (List ℕ)) where
  pub after-RepeatUntil : (place n : ℕ) (e : Expression) (body : Vec Statement Global) (p : Progress) →
      after tables (RepeatUntil place n e body) p ≡ turns_until (is_ended tables e place) (asked e place) (after_all tables body.items) n 0 p
  after-RepeatUntil place n e body p =
      let one = first_row (RepeatUntil place n e body) in
      until-same (is_ended tables e place) (asked e place) (λ q. after_row tables one.1 q) (after_all tables body.items)
      (λ q. row-after tables one.0 one.1 q ∙ ap (λ xs. after_all tables xs q) (items_hidden-the_row-Statement-0 body)) n 0 p

pub is-not_zero : (v : ℕ) → (v ≡ 0 → ⊥) → is_true v ≡ true
is-not_zero v h = grind (arith, nat_tests)

pub is-zero : (v : ℕ) → v ≡ 0 → is_true v ≡ false
is-zero v h = grind (arith, nat_tests)

-- for a statement that is known to be a choice: what its blocks cost, and what is after it
module _ (s : Statement) (e : Expression) (met unmet : Vec Statement Global) (choice : s ≡ If e met unmet) (xs : List Statement) where
  pub met-cost : (c : Limit) → xs ≡ met.items → cost c e + cost_of_all c xs ≤ cost_of c s
  met-cost c same = omega (arith, ap (cost_of_all c) same, ap (cost_of c) choice ∙ cost-If c e met unmet)

  pub unmet-cost : (c : Limit) → xs ≡ unmet.items → cost c e + cost_of_all c xs ≤ cost_of c s
  unmet-cost c same = omega (arith, ap (cost_of_all c) same, ap (cost_of c) choice ∙ cost-If c e met unmet)

  module _ (tables : List (List ℕ)) (p : Progress) (d v : ℕ) (made : Progress)
      (value : v ≡ value_of tables p.context e p.drawn) (drawn : d ≡ p.drawn + draws e)
      (done : made ≡ after_all tables xs (record { context = p.context; drawn = d; sends = p.sends })) where
    pub after-met : xs ≡ met.items → (v ≡ 0 → ⊥) → made ≡ after tables s p
    after-met same true_there =
        let q : Progress = record { context = p.context; drawn = p.drawn + draws e; sends = p.sends } in
        done
        ∙ ap (λ k. after_all tables xs (record { context = p.context; drawn = k; sends = p.sends })) drawn
        ∙ ap (λ ys. after_all tables ys q) same
        ∙ ap (λ b. if b then after_all tables met.items q else after_all tables unmet.items q)
        (sym (is-not_zero v true_there) ∙ ap is_true value)
        ∙ sym (after-If tables e met unmet p)
        ∙ ap (λ t. after tables t p) (sym choice)

    pub after-unmet : xs ≡ unmet.items → v ≡ 0 → made ≡ after tables s p
    after-unmet same false_there =
        let q : Progress = record { context = p.context; drawn = p.drawn + draws e; sends = p.sends } in
        done
        ∙ ap (λ k. after_all tables xs (record { context = p.context; drawn = k; sends = p.sends })) drawn
        ∙ ap (λ ys. after_all tables ys q) same
        ∙ ap (λ b. if b then after_all tables met.items q else after_all tables unmet.items q)
        (sym (is-zero v false_there) ∙ ap is_true value)
        ∙ sym (after-If tables e met unmet p)
        ∙ ap (λ t. after tables t p) (sym choice)

-- and for one that is known to be a repetition
module _ (s : Statement) (place n : ℕ) (body : Vec Statement Global) (repetition : s ≡ Repeat place n body) (k : ℕ) where
  pub turns-cost : (c : Limit) → k ≤ n → k * cost_of_all c body.items ≤ cost_of c s
  turns-cost c le =
      let most : k * (step_cost c + cost_of_all c body.items) ≤ n * (step_cost c + cost_of_all c body.items) =
      mul-le-mul_right (step_cost c + cost_of_all c body.items) le in
      omega (arith, ap (cost_of c) repetition ∙ cost-Repeat c place n body, most)

  pub turn-cost : (c : Limit) (xs : List Statement) → xs ≡ body.items → k < n → k * cost_of_all c body.items + cost_of_all c xs ≤ cost_of c s
  turn-cost c xs same lt =
      let most : (k + 1) * (step_cost c + cost_of_all c body.items) ≤ n * (step_cost c + cost_of_all c body.items) =
      mul-le-mul_right (step_cost c + cost_of_all c body.items) (omega arith) in
      omega (arith, ap (cost_of c) repetition ∙ cost-Repeat c place n body, most, ap (cost_of_all c) same)

  pub after-turns : (tables : List (List ℕ)) (p made : Progress) → k ≡ n →
      made ≡ turns k (λ i q. after_all tables body.items (at_turn place i q)) p → made ≡ after tables s p
  after-turns tables p made whole done =
      done
      ∙ ap (λ m. turns m (λ i q. after_all tables body.items (at_turn place i q)) p) whole
      ∙ sym (after-Repeat tables place n body p)
      ∙ ap (λ t. after tables t p) (sym repetition)

-- and for one that is known to be a repetition with an end
module _ (s : Statement) (place n : ℕ) (e : Expression) (body : Vec Statement Global) (repetition : s ≡ RepeatUntil place n e body) (xs : List Statement) (same : xs ≡ body.items) where
  pub until-cost : (c : Limit) → n * (cost c e + cost_of_all c xs) ≤ cost_of c s
  until-cost c =
      let most : n * (cost c e + cost_of_all c xs) ≤ n * (step_cost c + cost c e + cost_of_all c xs) = mul-le-mul_left n (omega arith) in
      omega (arith, ap (cost_of c) repetition ∙ cost-RepeatUntil c place n e body, most, ap (λ ys. n * (step_cost c + cost c e + cost_of_all c ys)) same)

  pub until-sends : (c : Limit) → n * cost_of_all c xs ≤ cost_of c s
  until-sends c =
      let most : n * cost_of_all c xs ≤ n * (cost c e + cost_of_all c xs) = mul-le-mul_left n (omega arith) in
      omega (arith, until-cost c, most)

  pub after-until : (tables : List (List ℕ)) (p made : Progress) →
      made ≡ turns_until (is_ended tables e place) (asked e place) (after_all tables xs) n 0 p → made ≡ after tables s p
  after-until tables p made done =
      done
      ∙ ap (λ ys. turns_until (is_ended tables e place) (asked e place) (after_all tables ys) n 0 p) same
      ∙ sym (after-RepeatUntil tables place n e body p)
      ∙ ap (λ t. after tables t p) (sym repetition)

-- what a choice and a repetition cost, by the lists of their blocks
pub choice-cost : (c : Limit) (s : Statement) (e : Expression) (met unmet : Vec Statement Global) → s ≡ If e met unmet →
    (xs ys : List Statement) → xs ≡ met.items → ys ≡ unmet.items →
    cost_of c s ≡ step_cost c + cost c e + max (cost_of_all c xs) (cost_of_all c ys)
choice-cost c s e met unmet choice xs ys one two =
    ap (cost_of c) choice ∙ cost-If c e met unmet
    ∙ ap (λ m. step_cost c + cost c e + max m (cost_of_all c unmet.items)) (sym (ap (cost_of_all c) one))
    ∙ ap (λ m. step_cost c + cost c e + max (cost_of_all c xs) m) (sym (ap (cost_of_all c) two))

pub repetition-cost : (c : Limit) (s : Statement) (place n : ℕ) (body : Vec Statement Global) → s ≡ Repeat place n body →
    (xs : List Statement) → xs ≡ body.items →
    cost_of c s ≡ step_cost c + n * (step_cost c + cost_of_all c xs)
repetition-cost c s place n body repetition xs one =
    ap (cost_of c) repetition ∙ cost-Repeat c place n body ∙ ap (λ m. step_cost c + n * (step_cost c + m)) (sym (ap (cost_of_all c) one))

pub repetition_until-cost : (c : Limit) (s : Statement) (place n : ℕ) (e : Expression) (body : Vec Statement Global) → s ≡ RepeatUntil place n e body →
    (xs : List Statement) → xs ≡ body.items →
    cost_of c s ≡ step_cost c + n * (step_cost c + cost c e + cost_of_all c xs)
repetition_until-cost c s place n e body repetition xs one =
    ap (cost_of c) repetition ∙ cost-RepeatUntil c place n e body ∙ ap (λ m. step_cost c + n * (step_cost c + cost c e + m)) (sym (ap (cost_of_all c) one))

-- a product that stops at a number may have a factor that stops there
pub min-times : (n a b most : ℕ) → b ≡ min a most → min (n * b) most ≡ min (n * a) most
min-times zero a b most e = omega arith
min-times (suc n) a b most e = elim (cases_lt a most) [
  | inl below ↦ let same : b ≡ a = omega arith in ap (λ m. min (suc n * m) most) same
  | inr above ↦ let one : 1 ≤ suc n = omega arith in omega (arith, mul-le-mul_right b one, mul-le-mul_right a one)
]
