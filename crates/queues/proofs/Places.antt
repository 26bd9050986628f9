-- The first and the last messages of an ascending list.
use Rattle.std.proofs.Common.{◌≡◌, ℕ, ◌+◌, List, [], ◌∷◌, ◌++◌, map, refl, ap, inl, inr, length, zero, suc, ◌≤◌, arith, true, ◌⊎◌, false, ◌∙◌, ◌<◌, ◌-◌, get_or, subst, sym}
use Rattle.std.proofs.lemmas.Bool.{cases_Bool, cond_both, false_from_ne_true, ltb-false, ltb-true, both_ways, cases_lt}
use Rattle.std.proofs.lemmas.List.{append-nil, length-map}
use Rattle.std.specs.List.{AllByRecursion as Every}
use Rattle.std.specs.Prelude.{nat_lt}
use Rattle.eventkey.proofs.Bags.{at_most_from_before, before_from_before, at_most_itself, is_before_itself, none_from_Every, one_if_same_cases}
use Rattle.eventkey.proofs.Lists.{Every-get_or, Every-weaker, after_head, after_last}
use Rattle.eventkey.specs.Bag.{IsAscending, copies}
use Rattle.eventkey.specs.Message.{IsAtMost, Message, is_before}
use Rattle.queues.specs.Queue.{after, but_last, last_of}

-- The last n elements

module _ {X : Type 0} where
  pub but_last-last_of : (n : ℕ) (xs : List X) → but_last n xs ++ last_of n xs ≡ xs
  but_last-last_of n [] = refl
  but_last-last_of n (x ∷ xs) = elim (cases_Bool (nat_lt (length xs) n)) [
    | inl e ↦ rw e refl
    | inr e ↦ rw e (ap (λ (ys : List X). x ∷ ys) (but_last-last_of n xs))
  ]

module _ {X : Type 0} where
  pub last_of_none : (xs : List X) → last_of 0 xs ≡ []
  last_of_none [] = refl
  last_of_none (x ∷ xs) = cond_both (nat_lt (length xs) 0) (x ∷ xs) (last_of 0 xs) (λ ys. ys ≡ []) (λ e. absurd (omega (arith, ltb-true (length xs) 0 e))) (λ _. last_of_none xs)

  pub but_last_none : (xs : List X) → but_last 0 xs ≡ xs
  but_last_none xs = sym (append-nil (but_last 0 xs)) ∙ (ap (λ (ys : List X). but_last 0 xs ++ ys) (sym (last_of_none xs)) ∙ but_last-last_of 0 xs)

module _ {X Y : Type 0} (f : X → Y) where
  pub map-but_last : (n : ℕ) (xs : List X) → map f (but_last n xs) ≡ but_last n (map f xs)
  map-but_last n [] = refl
  map-but_last n (x ∷ xs) = rw (length-map xs f) (elim (cases_Bool (nat_lt (length xs) n)) [
    | inl e ↦ rw e refl
    | inr e ↦ rw e (ap (λ (ys : List Y). f x ∷ ys) (map-but_last n xs))
  ])

  pub map-last_of : (n : ℕ) (xs : List X) → map f (last_of n xs) ≡ last_of n (map f xs)
  map-last_of n [] = refl
  map-last_of n (x ∷ xs) = rw (length-map xs f) (elim (cases_Bool (nat_lt (length xs) n)) [
    | inl e ↦ rw e refl
    | inr e ↦ rw e (map-last_of n xs)
  ])

pub after-le : (m : Message) (xs : List Message) → after m xs ≤ length xs
after-le m [] = omega arith
after-le m (x ∷ xs) = cond_both (is_before m x) (after m xs + 1) (after m xs) (λ n. n ≤ suc (length xs)) (λ _. omega (arith, after-le m xs)) (λ _. omega (arith, after-le m xs))

pub after-all : (m : Message) (xs : List Message) → Every (λ (x : Message). is_before m x ≡ true) xs → after m xs ≡ length xs
after-all m [] h = refl
after-all m (x ∷ xs) h = rw h.0 (omega (arith, after-all m xs h.1))

pub all_after : (m : Message) (xs : List Message) → after m xs ≡ length xs → Every (λ (x : Message). is_before m x ≡ true) xs
all_after m [] h = tt
all_after m (x ∷ xs) h = elim (cases_Bool (is_before m x)) [
  | inl e ↦ let k = rw e at h in (e, all_after m xs (omega arith))
  | inr e ↦ let k = rw e at h in absurd (omega (arith, after-le m xs))
]

pub after_cases : (m x : Message) (xs : List Message) → ((is_before m x ≡ true) × (after m (x ∷ xs) ≡ after m xs + 1)) ⊎ ((is_before m x ≡ false) × (after m (x ∷ xs) ≡ after m xs))
after_cases m x xs = elim (cases_Bool (is_before m x)) [
  | inl e ↦ inl (e, rw e refl)
  | inr e ↦ inr (e, rw e refl)
]

before_after_at : (m : Message) (n : ℕ) (xs : List Message) → IsAscending xs → n ≡ after m xs → Every (λ (x : Message). IsAtMost x m) (but_last n xs)
before_after_at m n [] h e = tt
before_after_at m n (x ∷ xs) h e =
    cond_both (nat_lt (length xs) n) [] (x ∷ but_last n xs) (Every (λ (y : Message). IsAtMost y m))
    (λ _. tt)
    (λ t. let short : n ≤ length xs = ltb-false (length xs) n t in
    elim (after_cases m x xs) [
      | inl f ↦ absurd (omega (arith, after-all m xs (after_head m x xs h f.0)))
      | inr f ↦ (f.0, before_after_at m n xs h.1 (e ∙ f.1))
    ])

those_after_at : (m : Message) (n : ℕ) (xs : List Message) → IsAscending xs → n ≡ after m xs → Every (λ (x : Message). is_before m x ≡ true) (last_of n xs)
those_after_at m n [] h e = tt
those_after_at m n (x ∷ xs) h e =
    cond_both (nat_lt (length xs) n) (x ∷ xs) (last_of n xs) (Every (λ (y : Message). is_before m y ≡ true))
    (λ t. let long : length xs < n = ltb-true (length xs) n t in
    elim (after_cases m x xs) [
      | inl f ↦ (f.0, after_head m x xs h f.0)
      | inr f ↦ absurd (omega (arith, after-le m xs))
    ])
    (λ t. let short : n ≤ length xs = ltb-false (length xs) n t in
    elim (after_cases m x xs) [
      | inl f ↦ absurd (omega (arith, after-all m xs (after_head m x xs h f.0)))
      | inr f ↦ those_after_at m n xs h.1 (e ∙ f.1)
    ])

-- the messages that remain without those after m are at most m
pub before_after : (m : Message) (xs : List Message) → IsAscending xs → Every (λ (x : Message). IsAtMost x m) (but_last (after m xs) xs)
before_after m xs h = before_after_at m (after m xs) xs h refl

-- the last messages, as many as are after m, are after m
pub those_after : (m : Message) (xs : List Message) → IsAscending xs → Every (λ (x : Message). is_before m x ≡ true) (last_of (after m xs) xs)
those_after m xs h = those_after_at m (after m xs) xs h refl

those_from_at : (m : Message) (n : ℕ) (xs : List Message) → IsAscending xs → 1 ≤ copies m xs → n ≡ after m xs + 1 → (1 ≤ copies m (last_of n xs)) × Every (λ (x : Message). IsAtMost m x) (last_of n xs)
those_from_at m n [] h some e = absurd (omega arith)
those_from_at m n (x ∷ xs) h some e =
    cond_both (nat_lt (length xs) n) (x ∷ xs) (last_of n xs) (λ (ys : List Message). (1 ≤ copies m ys) × Every (IsAtMost m) ys)
    (λ t. let long : length xs < n = ltb-true (length xs) n t in
    elim (after_cases m x xs) [
      | inl f ↦ (some, (at_most_from_before m x f.0, Every-weaker (λ (y : Message). is_before m y ≡ true) (IsAtMost m) (at_most_from_before m) xs (after_head m x xs h f.0)))
      | inr f ↦
          let all : Every (λ (y : Message). is_before m y ≡ true) xs = all_after m xs (omega (arith, after-le m xs)) in
          let none : copies m xs ≡ 0 = none_from_Every (λ (y : Message). is_before m y ≡ true) xs m all (both_ways (is_before m m) (is_before_itself m)) in (
            some,
            (
              elim (one_if_same_cases m x) [
                | inl g ↦ subst (IsAtMost m) g.0 (at_most_itself m)
                | inr g ↦ absurd (omega arith)
              ],
              Every-weaker (λ (y : Message). is_before m y ≡ true) (IsAtMost m) (at_most_from_before m) xs all,
            ),
          )
    ])
    (λ t. let short : n ≤ length xs = ltb-false (length xs) n t in
    elim (after_cases m x xs) [
      | inl f ↦ absurd (omega (arith, after-all m xs (after_head m x xs h f.0)))
      | inr f ↦ elim (cases_lt 0 (copies m xs)) [
        | inl g ↦ those_from_at m n xs h.1 g (e ∙ ap (λ (k : ℕ). k + 1) f.1)
        | inr g ↦ elim (one_if_same_cases m x) [
          | inl k ↦ let up : IsAscending (m ∷ xs) = rw k.0 h in
              absurd (omega (arith, after-all m xs (after_last m xs up (omega arith))))
          | inr k ↦ absurd (omega arith)
        ]
      ]
    ])

-- those and the one before them hold a copy of m, and all of them are at least m
pub those_from : (m : Message) (xs : List Message) → IsAscending xs → 1 ≤ copies m xs → (1 ≤ copies m (last_of (after m xs + 1) xs)) × Every (IsAtMost m) (last_of (after m xs + 1) xs)
those_from m xs h some = those_from_at m (after m xs + 1) xs h some refl

-- if the last message is not after m, none is
pub none_after : (m last : Message) (xs : List Message) (n : ℕ) → n ≡ length xs → IsAscending xs → 0 < n → last ≡ get_or xs (n - 1) last → is_before m last ≡ false → 0 ≡ after m xs
none_after m last xs n long up some is later = go xs (n - 1) up (omega arith) is
  where
    go : (ys : List Message) (k : ℕ) → IsAscending ys → k + 1 ≡ length ys → last ≡ get_or ys k last → 0 ≡ after m ys
    go [] k h l e = absurd (omega arith)
    go (y ∷ []) zero h l e = let none : is_before m y ≡ false = ap (is_before m) (sym e) ∙ later in rw none refl
    go (y ∷ []) (suc k) h l e = absurd (omega arith)
    go (y ∷ z ∷ ys) zero h l e = absurd (omega arith)
    go (y ∷ z ∷ ys) (suc k) h l e =
        let most : IsAtMost y last = subst (IsAtMost y) (sym e) (Every-get_or (IsAtMost y) (z ∷ ys) k last (omega arith) h.0) in
        let none : is_before m y ≡ false = false_from_ne_true (is_before m y) (λ b. both_ways (is_before m last) later (before_from_before m y last b most)) in
        rw none (go (z ∷ ys) k h.1 (omega arith) e)
