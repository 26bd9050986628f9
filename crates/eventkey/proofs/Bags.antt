-- The order of messages, and bags of them. Only the first part depends on the fields of a message:
-- it shows that the order is total, agrees with equality, and compares times first.
use Rattle.std.proofs.Common.{◌≡◌, refl, Ordering, Less, Equal, Greater, ℕ, ◌<◌, sym, nat_cmp, arith, true, false, is_eq, is_lt, ap, ◌↔◌, ◌∙◌, ◌≤◌, inl, inr, ◌⊎◌, ◌+◌, List, [], ◌∷◌, ◌++◌, subst, zero, suc, length, get_or, Contains, ap₂, flat_map, set, min}
use Rattle.std.proofs.lemmas.Bool.{false≢true, true≢false, both_ways, false_from_ne_true, cases_lt, cases_Bool, cond_both}
use Rattle.std.proofs.lemmas.Cmp.{ranked, by_ranked, tied_itself}
use Rattle.std.proofs.lemmas.List.Concat.{flat_map-append}
use Rattle.std.proofs.lemmas.List.Elements.{recursion_from_All, All-contains_itself}
use Rattle.std.specs.List.{AllByRecursion as Every}
use Rattle.std.specs.Ordering.{ordering_then, MatchOrdering, ordering_reverse}
use Rattle.eventkey.specs.Laws.{MessagesAreOrdered}
use Rattle.eventkey.specs.Bag.{IsAscending, add, add_all, copies, least_time, one_if_same, remove_all, remove_one}
use Rattle.eventkey.specs.Order.{messages_are_total}
use Rattle.eventkey.specs.Message.{IsAtMost, Message, is_before, is_same, message_cmp}

-- 1. The order

then_equal : (o p : Ordering) → ordering_then o p ≡ Equal → (o ≡ Equal) × (p ≡ Equal)
then_equal Less p e = absurd (cc)
then_equal Equal p e = (refl, e)
then_equal Greater p e = absurd (cc)

nat_cmp_equal : (m n : ℕ) → nat_cmp m n ≡ Equal → m ≡ n
nat_cmp_equal m n e = let h : MatchOrdering Equal (m < n) (m ≡ n) (n < m) = ranked m n Equal (sym e) in h

nat_cmp_less : (m n : ℕ) → m < n → nat_cmp m n ≡ Less
nat_cmp_less m n h = by_ranked (m < n) (m ≡ n) (n < m) (nat_cmp m n) (ranked m n (nat_cmp m n) refl) (λ e _. e) (λ _ e. absurd (omega arith)) (λ _ e. absurd (omega arith))

cmp_equal : (x y : Message) → message_cmp x y ≡ Equal → x ≡ y
unfolding message_cmp
cmp_equal x y e =
    let h1 = then_equal _ _ e in
    let h2 = then_equal _ _ h1.1 in
    let h3 = then_equal _ _ h2.1 in
    let h4 = then_equal _ _ h3.1 in
    let h5 = then_equal _ _ h4.1 in
    let time = nat_cmp_equal x.time y.time h1.0 in
    let from = nat_cmp_equal x.from y.from h2.0 in
    let number = nat_cmp_equal x.number y.number h3.0 in
    let to = nat_cmp_equal x.to y.to h4.0 in
    let a = nat_cmp_equal x.a y.a h5.0 in
    let h6 = then_equal _ _ h5.1 in
    let h7 = then_equal _ _ h6.1 in
    let b = nat_cmp_equal x.b y.b h6.0 in
    let c = nat_cmp_equal x.c y.c h7.0 in
    let d = nat_cmp_equal x.d y.d h7.1 in
    λ i. record { time = time i; from = from i; number = number i; to = to i; a = a i; b = b i; c = c i; d = d i }

cmp_earlier : (x y : Message) (earlier : x.time < y.time) → message_cmp x y ≡ Less
unfolding message_cmp
cmp_earlier x y earlier = rw (nat_cmp_less x.time y.time earlier)

pub messages_are_ordered : MessagesAreOrdered
messages_are_ordered = record {
  total = messages_are_total;
  exact = λ x y. (cmp_equal x y, λ e. rw (← e) (tied_itself messages_are_total x));
  by_time = cmp_earlier;
}

-- 2. The facts of the order that the rest uses

from_Equal : (o : Ordering) → is_eq o ≡ true → o ≡ Equal
from_Equal Less e = absurd (false≢true e)
from_Equal Equal e = refl
from_Equal Greater e = absurd (false≢true e)

from_Less : (o : Ordering) → is_lt o ≡ true → o ≡ Less
from_Less Less e = refl
from_Less Equal e = absurd (false≢true e)
from_Less Greater e = absurd (false≢true e)

neither_way : (o : Ordering) → is_lt o ≡ false → is_lt (ordering_reverse o) ≡ false → o ≡ Equal
neither_way Less e f = absurd (true≢false e)
neither_way Equal e f = refl
neither_way Greater e f = absurd (true≢false f)

pub is_same_itself : (x : Message) → is_same x x ≡ true
is_same_itself x = ap is_eq (tied_itself messages_are_total x)

pub same_from_is_same : (x y : Message) → is_same x y ≡ true → x ≡ y
same_from_is_same x y e = cmp_equal x y (from_Equal (message_cmp x y) e)

pub is_same_iff : (x y : Message) → (is_same x y ≡ true) ↔ (x ≡ y)
is_same_iff x y = (same_from_is_same x y, λ e. rw (← e) (is_same_itself x))

pub is_before_itself : (x : Message) → is_before x x ≡ false
is_before_itself x = ap is_lt (tied_itself messages_are_total x)

pub is_before_trans : (x y z : Message) → is_before x y ≡ true → is_before y z ≡ true → is_before x z ≡ true
is_before_trans x y z e f = ap is_lt (messages_are_total.trans x y z (from_Less _ e) (from_Less _ f))

-- two messages that are each at most the other are the same
pub same_from_at_most : (x y : Message) → IsAtMost x y → IsAtMost y x → x ≡ y
same_from_at_most x y e f =
    cmp_equal x y (neither_way (message_cmp x y) f (ap is_lt (sym (messages_are_total.antisymm y x)) ∙ e))

pub at_most_from_before : (x y : Message) → is_before x y ≡ true → IsAtMost x y
at_most_from_before x y e = false_from_ne_true (is_before y x) (λ f. both_ways (is_before x x) (is_before_itself x) (is_before_trans x y x e f))

pub at_most_itself : (x : Message) → IsAtMost x x
at_most_itself = is_before_itself

pub earlier_before : (x y : Message) → x.time < y.time → is_before x y ≡ true
earlier_before x y h = ap is_lt (cmp_earlier x y h)

pub time_from_at_most : (x y : Message) → IsAtMost x y → x.time ≤ y.time
time_from_at_most x y e = elim (cases_lt y.time x.time) [ inl h ↦ absurd (both_ways (is_before y x) e (earlier_before y x h)) | inr h ↦ h ]

-- x is before y, or y is at most x
pub before_or_at_most : (x y : Message) → (is_before x y ≡ true) ⊎ IsAtMost y x
before_or_at_most x y = cases_Bool (is_before x y)

pub before_from_at_most : (x y z : Message) → IsAtMost x y → is_before y z ≡ true → is_before x z ≡ true
before_from_at_most x y z e f = elim (before_or_at_most x y) [
  | inl h ↦ is_before_trans x y z h f
  | inr h ↦ rw (same_from_at_most x y e h) f
]

pub before_from_before : (x y z : Message) → is_before x y ≡ true → IsAtMost y z → is_before x z ≡ true
before_from_before x y z e f = elim (before_or_at_most y z) [
  | inl h ↦ is_before_trans x y z e h
  | inr h ↦ rw (← same_from_at_most y z f h) e
]

pub at_most_trans : (x y z : Message) → IsAtMost x y → IsAtMost y z → IsAtMost x z
at_most_trans x y z e f = false_from_ne_true (is_before z x) (λ h. both_ways (is_before z y) f (before_from_before z x y h e))

pub at_most_total : (x y : Message) → IsAtMost x y ⊎ IsAtMost y x
at_most_total x y = elim (before_or_at_most x y) [ inl h ↦ inl (at_most_from_before x y h) | inr h ↦ inr h ]

-- 3. How many copies

pub one_if_same_itself : (x : Message) → one_if_same x x ≡ 1
one_if_same_itself x = rw (is_same_itself x)

pub one_if_same_cases : (x y : Message) → ((x ≡ y) × (one_if_same x y ≡ 1)) ⊎ ((x ≡ y → ⊥) × (one_if_same x y ≡ 0))
one_if_same_cases x y = elim (cases_Bool (is_same x y)) [
  | inl e ↦ inl (same_from_is_same x y e, rw e)
  | inr e ↦ inr (λ p. both_ways (is_same x y) e ((is_same_iff x y).1 p), rw e)
]

pub copies-append : (x : Message) (xs ys : List Message) → copies x (xs ++ ys) ≡ copies x xs + copies x ys
copies-append x [] ys = omega arith
copies-append x (y ∷ xs) ys = omega (arith, copies-append x xs ys)

pub copies-add : (x m : Message) (xs : List Message) → copies x (add m xs) ≡ one_if_same x m + copies x xs
copies-add x m [] = refl
copies-add x m (y ∷ ys) =
    cond_both (is_before m y) (m ∷ y ∷ ys) (y ∷ add m ys)
    (λ zs. copies x zs ≡ one_if_same x m + (one_if_same x y + copies x ys))
    (λ _. refl)
    (λ _. omega (arith, copies-add x m ys))

pub copies-add_all : (x : Message) (ms xs : List Message) → copies x (add_all ms xs) ≡ copies x ms + copies x xs
copies-add_all x [] xs = omega arith
copies-add_all x (m ∷ ms) xs = omega (arith, copies-add_all x ms (add m xs), copies-add x m xs)

-- if m is in the list
pub copies-remove_one : (x m : Message) (xs : List Message) → 1 ≤ copies m xs → one_if_same x m + copies x (remove_one m xs) ≡ copies x xs
copies-remove_one x m [] h = absurd (omega arith)
copies-remove_one x m (y ∷ ys) h =
    cond_both (is_same m y) ys (y ∷ remove_one m ys)
    (λ zs. one_if_same x m + copies x zs ≡ one_if_same x y + copies x ys)
    (λ e. rw (same_from_is_same m y e) refl)
    (λ e. let f : one_if_same m y ≡ 0 = rw e in
    let h' : 1 ≤ copies m ys = omega arith in
    omega (arith, copies-remove_one x m ys h'))

pub remove_one_none : (m : Message) (xs : List Message) → copies m xs ≡ 0 → remove_one m xs ≡ xs
remove_one_none m [] h = refl
remove_one_none m (y ∷ ys) h =
    cond_both (is_same m y) ys (y ∷ remove_one m ys) (λ zs. zs ≡ y ∷ ys)
    (λ e. absurd (let f : one_if_same m y ≡ 1 = rw e in omega arith))
    (λ _. ap (λ zs. y ∷ zs) (remove_one_none m ys (omega arith)))

-- a property of every message of a list holds of a message that is in it
pub Every-member : (P : Message → Type 0) (xs : List Message) (x : Message) → Every P xs → 1 ≤ copies x xs → P x
Every-member P [] x h n = absurd (omega arith)
Every-member P (y ∷ ys) x h n = elim (one_if_same_cases x y) [
  | inl e ↦ subst P (sym e.0) h.0
  | inr e ↦ Every-member P ys x h.1 (omega arith)
]

pub Every-from_members : (P : Message → Type 0) (xs : List Message) → ((x : Message) → 1 ≤ copies x xs → P x) → Every P xs
Every-from_members P [] h = tt
Every-from_members P (y ∷ ys) h = (
  h y (omega (arith, one_if_same_itself y)),
  Every-from_members P ys (λ x n. h x (omega arith)),
)

pub none_from_Every : (P : Message → Type 0) (xs : List Message) (x : Message) → Every P xs → (P x → ⊥) → copies x xs ≡ 0
none_from_Every P xs x h n = elim (cases_lt 0 (copies x xs)) [
  | inl k ↦ absurd (n (Every-member P xs x h k))
  | inr k ↦ omega arith
]

-- from std's `Contains`
pub copies-from_Contains : (xs : List Message) (x : Message) → Contains xs x → 1 ≤ copies x xs
copies-from_Contains xs x (k, l, e) = at_place xs k l e
  where
    at_place : (ys : List Message) (i : ℕ) → i < length ys → get_or ys i x ≡ x → 1 ≤ copies x ys
    at_place [] i l e = absurd (omega arith)
    at_place (y ∷ ys) zero l e = let f : one_if_same x y ≡ 1 = rw e (one_if_same_itself x) in omega arith
    at_place (y ∷ ys) (suc i) l e = let h = at_place ys i (omega arith) e in omega arith

pub Contains-from_copies : (xs : List Message) (x : Message) → 1 ≤ copies x xs → Contains xs x
Contains-from_copies xs x n = Every-member (Contains xs) xs x (recursion_from_All (Contains xs) xs (All-contains_itself xs)) n

-- a list without a copy of any message is empty
pub empty_from_copies : (xs : List Message) → ((x : Message) → copies x xs ≡ 0) → xs ≡ []
empty_from_copies [] h = refl
empty_from_copies (y ∷ ys) h = absurd (omega (arith, h y, one_if_same_itself y))

-- the least time of two
pub least_time-min : (a b : ℕ) (xs : List Message) → least_time (min a b) xs ≡ min a (least_time b xs)
least_time-min a b [] = refl
least_time-min a b (x ∷ xs) = ap (λ (t : ℕ). least_time t xs) (let e : min (min a b) x.time ≡ min a (min b x.time) = omega arith in e) ∙ least_time-min a (min b x.time) xs

pub least_time-append : (t : ℕ) (xs ys : List Message) → least_time t (xs ++ ys) ≡ least_time (least_time t xs) ys
least_time-append t [] ys = refl
least_time-append t (x ∷ xs) ys = least_time-append (min t x.time) xs ys

-- 4. Ascending lists

pub head_at_most : (x y : Message) (xs : List Message) → IsAscending (x ∷ xs) → 1 ≤ copies y (x ∷ xs) → IsAtMost x y
head_at_most x y xs h n = Every-member (IsAtMost x) (x ∷ xs) y (at_most_itself x, h.0) n

pub IsAscending-add : (m : Message) (xs : List Message) → IsAscending xs → IsAscending (add m xs)
IsAscending-add m [] h = (tt, tt)
IsAscending-add m (x ∷ xs) h =
    cond_both (is_before m x) (m ∷ x ∷ xs) (x ∷ add m xs) IsAscending
    (λ e. (Every-from_members (IsAtMost m) (x ∷ xs) (λ y n. at_most_trans m x y (at_most_from_before m x e) (head_at_most x y xs h n)), h))
    (λ e. (
      Every-from_members (IsAtMost x) (add m xs) (λ y n. elim (one_if_same_cases y m) [
        | inl f ↦ subst (IsAtMost x) (sym f.0) e
        | inr f ↦ Every-member (IsAtMost x) xs y h.0 (omega (arith, copies-add y m xs))
      ]),
      IsAscending-add m xs h.1,
    ))

pub IsAscending-add_all : (ms xs : List Message) → IsAscending xs → IsAscending (add_all ms xs)
IsAscending-add_all [] xs h = h
IsAscending-add_all (m ∷ ms) xs h = IsAscending-add_all ms (add m xs) (IsAscending-add m xs h)

pub copies-remove_one-le : (x m : Message) (xs : List Message) → copies x (remove_one m xs) ≤ copies x xs
copies-remove_one-le x m [] = omega arith
copies-remove_one-le x m (y ∷ ys) =
    cond_both (is_same m y) ys (y ∷ remove_one m ys)
    (λ zs. copies x zs ≤ one_if_same x y + copies x ys)
    (λ _. omega arith)
    (λ _. omega (arith, copies-remove_one-le x m ys))

pub IsAscending-remove_one : (m : Message) (xs : List Message) → IsAscending xs → IsAscending (remove_one m xs)
IsAscending-remove_one m [] h = tt
IsAscending-remove_one m (x ∷ xs) h =
    cond_both (is_same m x) xs (x ∷ remove_one m xs) IsAscending
    (λ _. h.1)
    (λ _. (
      Every-from_members (IsAtMost x) (remove_one m xs) (λ y n. Every-member (IsAtMost x) xs y h.0 (omega (arith, copies-remove_one-le y m xs))),
      IsAscending-remove_one m xs h.1,
    ))

-- if the bag has all of them
pub copies-remove_all : (y : Message) (ms bag : List Message) → ((x : Message) → copies x ms ≤ copies x bag) → copies y ms + copies y (remove_all ms bag) ≡ copies y bag
copies-remove_all y [] bag h = omega arith
copies-remove_all y (m ∷ ms) bag h =
    let there : 1 ≤ copies m bag = let a = h m in omega (arith, one_if_same_itself m) in
    let rest = copies-remove_all y ms (remove_one m bag) (λ x. let a = h x in omega (arith, copies-remove_one x m bag there)) in
    omega (arith, copies-remove_one y m bag there)

pub IsAscending-remove_all : (ms bag : List Message) → IsAscending bag → IsAscending (remove_all ms bag)
IsAscending-remove_all [] bag h = h
IsAscending-remove_all (m ∷ ms) bag h = IsAscending-remove_all ms (remove_one m bag) (IsAscending-remove_one m bag h)

-- the numbers of copies determine an ascending list
pub same_ascending : (xs ys : List Message) → IsAscending xs → IsAscending ys → ((x : Message) → copies x xs ≡ copies x ys) → xs ≡ ys
same_ascending [] ys h k e = sym (empty_from_copies ys (λ x. sym (e x)))
same_ascending (x ∷ xs) [] h k e = empty_from_copies (x ∷ xs) e
same_ascending (x ∷ xs) (y ∷ ys) h k e =
    let x_in : 1 ≤ copies x (y ∷ ys) = omega (arith, e x, one_if_same_itself x) in
    let y_in : 1 ≤ copies y (x ∷ xs) = omega (arith, e y, one_if_same_itself y) in
    let same : x ≡ y = same_from_at_most x y (head_at_most x y xs h y_in) (head_at_most y x ys k x_in) in
    let rest : xs ≡ ys = same_ascending xs ys h.1 k.1 (λ z. let f : one_if_same z x ≡ one_if_same z y = ap (one_if_same z) same in omega (arith, e z)) in
    ap₂ (λ (u : Message) us. u ∷ us) same rest

-- an ascending list that has x and nothing smaller begins with x
pub least_is_head : (x : Message) (xs : List Message) → IsAscending xs → 1 ≤ copies x xs → ((y : Message) → 1 ≤ copies y xs → IsAtMost x y) → xs ≡ x ∷ remove_one x xs
least_is_head x [] h n f = absurd (omega arith)
least_is_head x (y ∷ ys) h n f =
    let same : x ≡ y = same_from_at_most x y (f y (omega (arith, one_if_same_itself y))) (head_at_most y x ys h n) in
    cond_both (is_same x y) ys (y ∷ remove_one x ys) (λ zs. y ∷ ys ≡ x ∷ zs)
    (λ _. ap (λ (u : Message). u ∷ ys) (sym same))
    (λ e. absurd (both_ways (is_same x y) e ((is_same_iff x y).1 same)))

-- 5. Bags of many lists

module _ {X : Type 0} (f : X → List Message) where
  pub copies-flat_map-append : (x : Message) (xs ys : List X) → copies x (flat_map f (xs ++ ys)) ≡ copies x (flat_map f xs) + copies x (flat_map f ys)
  copies-flat_map-append x xs ys = ap (copies x) (flat_map-append f xs ys) ∙ copies-append x (flat_map f xs) (flat_map f ys)

  -- after one element is replaced
  pub copies-flat_map-set : (x : Message) (xs : List X) (i : ℕ) (y d : X) → i < length xs →
      copies x (flat_map f (set xs i y)) + copies x (f (get_or xs i d)) ≡ copies x (flat_map f xs) + copies x (f y)
  copies-flat_map-set x [] i y d h = absurd (omega arith)
  copies-flat_map-set x (z ∷ zs) zero y d h = omega (arith, copies-append x (f y) (flat_map f zs), copies-append x (f z) (flat_map f zs))
  copies-flat_map-set x (z ∷ zs) (suc i) y d h =
      omega (arith, copies-append x (f z) (flat_map f (set zs i y)), copies-append x (f z) (flat_map f zs), copies-flat_map-set x zs i y d (omega arith))

  pub copies-flat_map-none : (x : Message) (xs : List X) (d : X) → ((j : ℕ) → j < length xs → copies x (f (get_or xs j d)) ≡ 0) → copies x (flat_map f xs) ≡ 0
  copies-flat_map-none x [] d none = refl
  copies-flat_map-none x (z ∷ zs) d none =
      omega (arith, copies-append x (f z) (flat_map f zs), none zero (omega arith), copies-flat_map-none x zs d (λ j k. none (suc j) (omega arith)))

  -- if at most one of the lists has it
  pub copies-flat_map-one : (x : Message) (xs : List X) (i : ℕ) (d : X) → i < length xs → ((j : ℕ) → j < length xs → (j ≡ i → ⊥) → copies x (f (get_or xs j d)) ≡ 0) →
      copies x (flat_map f xs) ≡ copies x (f (get_or xs i d))
  copies-flat_map-one x [] i d h none = absurd (omega arith)
  copies-flat_map-one x (z ∷ zs) zero d h none =
      omega (arith, copies-append x (f z) (flat_map f zs), copies-flat_map-none x zs d (λ j k. none (suc j) (omega arith) (λ e. omega arith)))
  copies-flat_map-one x (z ∷ zs) (suc i) d h none =
      omega (arith, copies-append x (f z) (flat_map f zs), none zero (omega arith) (λ e. omega arith), copies-flat_map-one x zs i d (omega arith) (λ j k e. none (suc j) (omega arith) (λ g. e (omega arith))))
