-- Picks one by one: the places they have named, and whether all of them may be picked.
use Rattle.std.proofs.Common.{ℕ, zero, suc, ◌≡◌, ◌+◌, ◌<◌, List, [], ◌∷◌, ◌++◌, Bool, true, false, length, take, drop, get_or, set, refl, ap, ◌∙◌, sym, arith, inl, inr, replicate, get_or-set_same, get_or-set_other, ◌%◌}
use Rattle.std.proofs.Math.Seq.{drop-cons}
use Rattle.std.proofs.lemmas.Bool.{and_parts, and_left, and_right, and_from, cases_Bool, eqb-true, eqb-false, eq-eqb, ne_eqb, not-true, or_parts, or_cases, or_left, or_right, or_from, not_from_true, not_from_false, cases_eq, lt-ltb, ltb-true}
use Rattle.std.proofs.lemmas.List.{get_or-replicate, get_or_default, length-set, length-replicate, take-append-drop, take_more}
use Rattle.std.specs.Prelude.{nat_eq, nat_lt, ◌&&◌, ◌||◌, not}
use Rattle.eventkey.specs.declared.Signed.{Signed}
use Rattle.eventkey.proofs.Lists.{or_false}
use Rattle.node.specs.Node.{sits_on}
use Rattle.gvt.specs.Picks.{are_distinct, can_pick, has, nothing}

has-append : (k : ℕ) (xs ys : List ℕ) → has k (xs ++ ys) ≡ (has k xs || has k ys)
has-append k [] ys = refl
has-append k (x ∷ xs) ys = elim (cases_Bool (nat_eq k x)) [
  | inl e ↦ rw e refl
  | inr e ↦ rw e (has-append k xs ys)
]

can_pick-append : (nodes node : ℕ) (transit : List Signed) (xs ys : List ℕ) → can_pick nodes node transit (xs ++ ys) ≡ (can_pick nodes node transit xs && can_pick nodes node transit ys)
can_pick-append nodes node transit [] ys = refl
can_pick-append nodes node transit (x ∷ xs) ys = elim (cases_Bool (nat_lt x (length transit) && sits_on nodes node (get_or transit x nothing).message.to)) [
  | inl e ↦ rw e (can_pick-append nodes node transit xs ys)
  | inr e ↦ rw e refl
]

-- a number that repeats an earlier one
repeated : (p : ℕ) (xs ys : List ℕ) → has p xs ≡ true → are_distinct (xs ++ p ∷ ys) ≡ false
repeated p [] ys h = absurd (cc)
repeated p (x ∷ xs) ys h = elim (or_cases (nat_eq p x) (has p xs) h) [
  | inl e ↦ and_left (not (has x (xs ++ p ∷ ys))) (are_distinct (xs ++ p ∷ ys))
      (not_from_true (has x (xs ++ p ∷ ys)) (has-append x xs (p ∷ ys) ∙ or_right (has x xs) (nat_eq x p || has x ys) (or_left (nat_eq x p) (has x ys) (eq-eqb x p (sym (eqb-true p x e))))))
  | inr e ↦ and_right (not (has x (xs ++ p ∷ ys))) (are_distinct (xs ++ p ∷ ys)) (repeated p xs ys e)
]

-- one more number, which is new
distinct-push : (p : ℕ) (xs : List ℕ) → has p xs ≡ false → are_distinct xs ≡ true → are_distinct (xs ++ p ∷ []) ≡ true
distinct-push p [] new apart = refl
distinct-push p (x ∷ xs) new apart =
    let a = or_parts (nat_eq p x) (has p xs) new in
    let b = and_parts (not (has x xs)) (are_distinct xs) apart in
    let other : nat_eq x p ≡ false = ne_eqb x p (λ e. eqb-false p x a.0 (sym e)) in
    and_from (not (has x (xs ++ p ∷ []))) (are_distinct (xs ++ p ∷ []))
    (not_from_false (has x (xs ++ p ∷ [])) (has-append x xs (p ∷ []) ∙ or_from (has x xs) (nat_eq x p || false) (not-true (has x xs) b.0) (or_from (nat_eq x p) false other refl)))
    (distinct-push p xs a.1 b.1)

-- The picks so far are good and distinct, and exactly they are marked
pub record IsPicking (nodes node : ℕ) (transit : List Signed) (marks : List Bool) (done : List ℕ) : Type 0 where
  pub long : length marks ≡ length transit
  pub each : (k : ℕ) → k < length marks → get_or marks k false ≡ has k done
  pub good : can_pick nodes node transit done ≡ true
  pub apart : are_distinct done ≡ true

pub picking-none : (nodes node : ℕ) (transit : List Signed) (marks : List Bool) → marks ≡ replicate (length transit) false → IsPicking nodes node transit marks []
picking-none nodes node transit marks e = record {
  long = ap length e ∙ length-replicate (length transit) false;
  each = λ k l. rw e (get_or-replicate (length transit) k false false (let a = ap length e ∙ length-replicate (length transit) false in omega arith));
  good = refl;
  apart = refl;
}

module _ (nodes node : ℕ) (transit : List Signed) (marks : List Bool) (picks : List ℕ) (i p : ℕ) (within : i < length picks) (at : p ≡ get_or picks i 0) (h : IsPicking nodes node transit marks (take i picks)) where
  rest : List ℕ
  rest = drop (suc i) picks

  split : picks ≡ take i picks ++ p ∷ rest
  unfolding rest
  split = sym (take-append-drop i picks) ∙ ap (λ (ns : List ℕ). take i picks ++ ns) (drop-cons picks i 0 within ∙ ap (λ (n : ℕ). n ∷ drop (suc i) picks) (sym at))

  -- this pick is bad, so the picks as a whole are
  pub picking-bad : (nat_lt p (length transit) && sits_on nodes node (get_or transit p nothing).message.to) ≡ false → (can_pick nodes node transit picks && are_distinct picks) ≡ false
  picking-bad e = and_left (can_pick nodes node transit picks) (are_distinct picks)
      (ap (can_pick nodes node transit) split
      ∙ (can_pick-append nodes node transit (take i picks) (p ∷ rest)
      ∙ and_right (can_pick nodes node transit (take i picks)) (can_pick nodes node transit (p ∷ rest))
      (and_left (nat_lt p (length transit) && sits_on nodes node (get_or transit p nothing).message.to) (can_pick nodes node transit rest) e)))

  -- this pick names a place that an earlier one named
  pub picking-again : get_or marks p false ≡ true → p < length transit → (can_pick nodes node transit picks && are_distinct picks) ≡ false
  picking-again e l = and_right (can_pick nodes node transit picks) (are_distinct picks)
      (ap are_distinct split ∙ repeated p (take i picks) rest (sym (h.each p (let a = h.long in omega arith)) ∙ e))

  -- this pick is good, and its place is marked
  pub picking-more : p < length transit → get_or marks p false ≡ false → (get_or transit p nothing).message.to % nodes ≡ node → IsPicking nodes node transit (set marks p true) (take (i + 1) picks)
  picking-more l e s =
      let inside : p < length marks = (let a = h.long in omega arith) in
      let new : has p (take i picks) ≡ false = sym (h.each p inside) ∙ e in
      let done : take (i + 1) picks ≡ take i picks ++ p ∷ [] = take_more picks i 0 within ∙ ap (λ (n : ℕ). take i picks ++ n ∷ []) (sym at) in
      record {
        long = length-set marks p true ∙ h.long;
        each = λ k k_in.
            let within' : k < length marks = (let a = length-set marks p true in omega arith) in
            rw (done, has-append k (take i picks) (p ∷ [])) (elim (cases_eq k p) [
              | inl same ↦ ap (λ (n : ℕ). get_or (set marks p true) n false) same ∙ (get_or-set_same marks p true false inside
                  ∙ sym (or_right (has k (take i picks)) (nat_eq k p || false) (or_left (nat_eq k p) false (eq-eqb k p same))))
              | inr other ↦ get_or-set_other marks p k true false other ∙ (h.each k within'
                  ∙ sym (ap (λ (b : Bool). has k (take i picks) || (b || false)) (ne_eqb k p other) ∙ or_false (has k (take i picks))))
            ]);
        good = ap (can_pick nodes node transit) done
            ∙ (can_pick-append nodes node transit (take i picks) (p ∷ [])
            ∙ and_from (can_pick nodes node transit (take i picks)) (can_pick nodes node transit (p ∷ [])) h.good
            (and_from (nat_lt p (length transit) && sits_on nodes node (get_or transit p nothing).message.to) true
            (and_from (nat_lt p (length transit)) (sits_on nodes node (get_or transit p nothing).message.to) (lt-ltb p (length transit) l) (eq-eqb ((get_or transit p nothing).message.to % nodes) node s)) refl));
        apart = ap are_distinct done ∙ distinct-push p (take i picks) new h.apart;
      }

-- all picks are done
pub picking-all : (nodes node : ℕ) (transit : List Signed) (marks : List Bool) (picks : List ℕ) → IsPicking nodes node transit marks picks → (can_pick nodes node transit picks && are_distinct picks) ≡ true
picking-all nodes node transit marks picks h = and_from (can_pick nodes node transit picks) (are_distinct picks) h.good h.apart

-- each pick is a place in transit
pub picks_within : (nodes node : ℕ) (transit : List Signed) (picks : List ℕ) → can_pick nodes node transit picks ≡ true → (k : ℕ) → k < length picks → get_or picks k 0 < length transit
picks_within nodes node transit [] e k l = absurd (omega arith)
picks_within nodes node transit (p ∷ ps) e zero l =
    let a = and_parts (nat_lt p (length transit) && sits_on nodes node (get_or transit p nothing).message.to) (can_pick nodes node transit ps) e in
    ltb-true p (length transit) (and_parts (nat_lt p (length transit)) (sits_on nodes node (get_or transit p nothing).message.to) a.0).0
picks_within nodes node transit (p ∷ ps) e (suc k) l =
    let a = and_parts (nat_lt p (length transit) && sits_on nodes node (get_or transit p nothing).message.to) (can_pick nodes node transit ps) e in
    picks_within nodes node transit ps a.1 k (omega arith)

-- the receiver of the message at a place
pub to_of : (transit : List Signed) (p : ℕ) (s : Signed) → p < length transit → (get_or transit p nothing).message.to ≡ (get_or transit p s).message.to
to_of transit p s l = ap (λ (x : Signed). x.message.to) (get_or_default transit p nothing s l)
