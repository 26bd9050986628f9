-- Lists: properties of every element, ascending lists, signed messages.
use Rattle.std.proofs.Common.{ℕ, zero, suc, ◌+◌, ◌<◌, List, [], ◌∷◌, ◌++◌, map, flat_map, arith, length, set, get_or, sym, subst, inl, inr, ◌≡◌, ◌≢◌, true, false, ◌≤◌, refl, ap, ◌∙◌, Option, Some, None, filter, Bool, ◌==◌, eqb-true, replicate, drop}
use Rattle.std.proofs.lemmas.Bool.{cases_Bool, cond_both, both_ways}
use Rattle.std.proofs.lemmas.List.{drop_more}
use Rattle.std.proofs.lemmas.Option.{none-some, same_Some}
use Rattle.std.specs.List.{AllByRecursion as Every}
use Rattle.std.specs.Prelude.{is_some, option_map, ◌||◌}
use Rattle.eventkey.proofs.Bags.{Every-from_members, Every-member, before_from_before, copies-add, copies-append, copies-remove_one-le, one_if_same_cases, same_from_at_most}
use Rattle.eventkey.specs.Bag.{IsAscending, add, add_all, copies, one_if_same, remove_one}
use Rattle.eventkey.specs.Message.{IsAtMost, Message, is_before}
use Rattle.eventkey.specs.Signed.{minus, of_sign, plus}
use Rattle.eventkey.specs.declared.Sign.{Sign}
use Rattle.eventkey.specs.declared.Sign.TheVariants.{Minus, Plus}
use Rattle.eventkey.specs.declared.Signed.{Signed}

-- 1. Every

module _ {X : Type 0} (P : X → Type 0) where
  pub Every-append : (xs ys : List X) → Every P xs → Every P ys → Every P (xs ++ ys)
  Every-append [] ys h k = k
  Every-append (x ∷ xs) ys h k = (h.0, Every-append xs ys h.1 k)

  pub Every-left : (xs ys : List X) → Every P (xs ++ ys) → Every P xs
  Every-left [] ys h = tt
  Every-left (x ∷ xs) ys h = (h.0, Every-left xs ys h.1)

  pub Every-right : (xs ys : List X) → Every P (xs ++ ys) → Every P ys
  Every-right [] ys h = h
  Every-right (x ∷ xs) ys h = Every-right xs ys h.1

  pub Every-weaker : (Q : X → Type 0) → ((x : X) → P x → Q x) → (xs : List X) → Every P xs → Every Q xs
  Every-weaker Q f [] h = tt
  Every-weaker Q f (x ∷ xs) h = (f x h.0, Every-weaker Q f xs h.1)

  pub Every-both : (Q R : X → Type 0) → ((x : X) → P x → Q x → R x) → (xs : List X) → Every P xs → Every Q xs → Every R xs
  Every-both Q R f [] h k = tt
  Every-both Q R f (x ∷ xs) h k = (f x h.0 k.0, Every-both Q R f xs h.1 k.1)

  pub Every-get_or : (xs : List X) (i : ℕ) (d : X) → i < length xs → Every P xs → P (get_or xs i d)
  Every-get_or [] i d l h = absurd (omega arith)
  Every-get_or (x ∷ xs) zero d l h = h.0
  Every-get_or (x ∷ xs) (suc i) d l h = Every-get_or xs i d (omega arith) h.1

  pub Every-set : (xs : List X) (i : ℕ) (y : X) → P y → Every P xs → Every P (set xs i y)
  Every-set [] i y p h = tt
  Every-set (x ∷ xs) zero y p h = (p, h.1)
  Every-set (x ∷ xs) (suc i) y p h = (h.0, Every-set xs i y p h.1)

  pub Every-all : ((x : X) → P x) → (xs : List X) → Every P xs
  Every-all f [] = tt
  Every-all f (x ∷ xs) = (f x, Every-all f xs)

module _ {X Y : Type 0} (P : Y → Type 0) (f : X → Y) where
  pub Every-map : (xs : List X) → Every (λ (x : X). P (f x)) xs → Every P (map f xs)
  Every-map [] h = tt
  Every-map (x ∷ xs) h = (h.0, Every-map xs h.1)

  pub Every-unmap : (xs : List X) → Every P (map f xs) → Every (λ (x : X). P (f x)) xs
  Every-unmap [] h = tt
  Every-unmap (x ∷ xs) h = (h.0, Every-unmap xs h.1)

module _ {X Y : Type 0} (P : Y → Type 0) (f : X → List Y) where
  pub Every-flat_map : (xs : List X) → Every (λ (x : X). Every P (f x)) xs → Every P (flat_map f xs)
  Every-flat_map [] h = tt
  Every-flat_map (x ∷ xs) h = Every-append P (f x) (flat_map f xs) h.0 (Every-flat_map xs h.1)

  pub Every-unflat_map : (xs : List X) → Every P (flat_map f xs) → Every (λ (x : X). Every P (f x)) xs
  Every-unflat_map [] h = tt
  Every-unflat_map (x ∷ xs) h = (Every-left P (f x) (flat_map f xs) h, Every-unflat_map xs (Every-right P (f x) (flat_map f xs) h))

-- a property of every message of a bag, after the bag changes
pub Every-add : (P : Message → Type 0) (m : Message) (xs : List Message) → P m → Every P xs → Every P (add m xs)
Every-add P m xs p h = Every-from_members P (add m xs) (λ x n. elim (one_if_same_cases x m) [
  | inl e ↦ subst P (sym e.0) p
  | inr e ↦ Every-member P xs x h (omega (arith, copies-add x m xs))
])

pub Every-add_all : (P : Message → Type 0) (ms xs : List Message) → Every P ms → Every P xs → Every P (add_all ms xs)
Every-add_all P [] xs h k = k
Every-add_all P (m ∷ ms) xs h k = Every-add_all P ms (add m xs) h.1 (Every-add P m xs h.0 k)

pub Every-remove_one : (P : Message → Type 0) (m : Message) (xs : List Message) → Every P xs → Every P (remove_one m xs)
Every-remove_one P m xs h = Every-from_members P (remove_one m xs) (λ x n. Every-member P xs x h (omega (arith, copies-remove_one-le x m xs)))

-- 3. Ascending lists in two parts

pub IsAscending-left : (xs ys : List Message) → IsAscending (xs ++ ys) → IsAscending xs
IsAscending-left [] ys h = tt
IsAscending-left (x ∷ xs) ys h = (Every-left (IsAtMost x) xs ys h.0, IsAscending-left xs ys h.1)

pub IsAscending-right : (xs ys : List Message) → IsAscending (xs ++ ys) → IsAscending ys
IsAscending-right [] ys h = h
IsAscending-right (x ∷ xs) ys h = IsAscending-right xs ys h.1

-- each of the first is at most each of the others
abbrev pub IsAllAtMost : List Message → List Message → Type 0
IsAllAtMost xs ys = Every (λ (y : Message). Every (λ (x : Message). IsAtMost x y) xs) ys

pub IsAscending-across : (xs ys : List Message) → IsAscending (xs ++ ys) → IsAllAtMost xs ys
IsAscending-across [] ys h = Every-all (λ (y : Message). Every (λ (x : Message). IsAtMost x y) []) (λ y. tt) ys
IsAscending-across (x ∷ xs) ys h =
    Every-both (IsAtMost x) (λ (y : Message). Every (λ (z : Message). IsAtMost z y) xs) (λ (y : Message). Every (λ (z : Message). IsAtMost z y) (x ∷ xs))
    (λ y p q. (p, q)) ys (Every-right (IsAtMost x) xs ys h.0) (IsAscending-across xs ys h.1)

pub IsAscending-append : (xs ys : List Message) → IsAscending xs → IsAscending ys → IsAllAtMost xs ys → IsAscending (xs ++ ys)
IsAscending-append [] ys h k a = k
IsAscending-append (x ∷ xs) ys h k a = (
  Every-append (IsAtMost x) xs ys h.0 (Every-weaker (λ (y : Message). Every (λ (z : Message). IsAtMost z y) (x ∷ xs)) (IsAtMost x) (λ y p. p.0) ys a),
  IsAscending-append xs ys h.1 k (Every-weaker (λ (y : Message). Every (λ (z : Message). IsAtMost z y) (x ∷ xs)) (λ (y : Message). Every (λ (z : Message). IsAtMost z y) xs) (λ y p. p.1) ys a),
)

-- a list from an index on begins with the element at the index
pub drop_here : {X : Type 0} (xs : List X) (i : ℕ) (x : X) → i < length xs → x ≡ get_or xs i x → drop i xs ≡ x ∷ drop (i + 1) xs
drop_here xs i x l is = drop_more xs i x l ∙ ap (λ y. y ∷ drop (i + 1) xs) (sym is)

-- 4. Those after m

-- in an ascending list all that follow one after m are after m
pub after_head : (m x : Message) (xs : List Message) → IsAscending (x ∷ xs) → is_before m x ≡ true → Every (λ (y : Message). is_before m y ≡ true) xs
after_head m x xs h e = Every-weaker (IsAtMost x) (λ (y : Message). is_before m y ≡ true) (λ y p. before_from_before m x y e p) xs h.0

-- if an ascending list begins with m and no other element is m, all others come after m
pub after_last : (m : Message) (xs : List Message) → IsAscending (m ∷ xs) → copies m xs ≡ 0 → Every (λ (y : Message). is_before m y ≡ true) xs
after_last m xs h none = Every-from_members (λ (y : Message). is_before m y ≡ true) xs (λ y n. elim (cases_Bool (is_before m y)) [
  | inl e ↦ e
  | inr e ↦ let same : m ≡ y = same_from_at_most m y (Every-member (IsAtMost m) xs y h.0 n) e in
      let some : 1 ≤ copies m xs = rw same n in absurd (omega arith)
])

-- 5. Signed messages

of_sign_cons : (sign sign' : Sign) (m : Message) (ss : List Signed) → of_sign sign (record { sign = sign'; message = m } ∷ ss) ≡ of_sign sign (record { sign = sign'; message = m } ∷ []) ++ of_sign sign ss
of_sign_cons Plus Plus m ss = refl
of_sign_cons Plus Minus m ss = refl
of_sign_cons Minus Plus m ss = refl
of_sign_cons Minus Minus m ss = refl

pub copies-cons : (x : Message) (sign : Sign) (s : Signed) (ss : List Signed) → copies x (of_sign sign (s ∷ ss)) ≡ copies x (of_sign sign (s ∷ [])) + copies x (of_sign sign ss)
copies-cons x sign s ss = ap (copies x) (of_sign_cons sign s.sign s.message ss) ∙ copies-append x (of_sign sign (s ∷ [])) (of_sign sign ss)

pub copies-append_signed : (x : Message) (sign : Sign) (ss ts : List Signed) → copies x (of_sign sign (ss ++ ts)) ≡ copies x (of_sign sign ss) + copies x (of_sign sign ts)
copies-append_signed x Plus [] ts = omega arith
copies-append_signed x Minus [] ts = omega arith
copies-append_signed x sign (s ∷ ss) ts = omega (arith, copies-cons x sign s (ss ++ ts), copies-cons x sign s ss, copies-append_signed x sign ss ts)

pub plus_of_plus : (xs : List Message) → of_sign Plus (map plus xs) ≡ xs
plus_of_plus [] = refl
plus_of_plus (x ∷ xs) = ap (λ (ys : List Message). x ∷ ys) (plus_of_plus xs)

pub minus_of_plus : (xs : List Message) → of_sign Minus (map plus xs) ≡ []
minus_of_plus [] = refl
minus_of_plus (x ∷ xs) = minus_of_plus xs

pub minus_of_minus : (xs : List Message) → of_sign Minus (map minus xs) ≡ xs
minus_of_minus [] = refl
minus_of_minus (x ∷ xs) = ap (λ (ys : List Message). x ∷ ys) (minus_of_minus xs)

pub plus_of_minus : (xs : List Message) → of_sign Plus (map minus xs) ≡ []
plus_of_minus [] = refl
plus_of_minus (x ∷ xs) = plus_of_minus xs

pub option_map-option_map : {A B C D : Type 0} (f : A → B) (g : B → D) (h : A → C) (k : C → D) → ((x : A) → g (f x) ≡ k (h x)) → (o : Option A) → option_map g (option_map f o) ≡ option_map k (option_map h o)
option_map-option_map f g h k same None = refl
option_map-option_map f g h k same (Some x) = ap Some (same x)

pub Every-filter : {X : Type 0} (P : X → Type 0) (test : X → Bool) (xs : List X) → Every P xs → Every P (filter test xs)
Every-filter P test [] h = tt
Every-filter P test (x ∷ xs) h =
    cond_both (test x) (x ∷ filter test xs) (filter test xs) (Every P) (λ _. (h.0, Every-filter P test xs h.1)) (λ _. Every-filter P test xs h.1)

pub Every-passes : (lp : ℕ) (xs : List Message) → Every (λ (x : Message). x.to ≡ lp) (filter (λ (x : Message). x.to == lp) xs)
Every-passes lp [] = tt
Every-passes lp (x ∷ xs) =
    cond_both (x.to == lp) (x ∷ filter (λ (x : Message). x.to == lp) xs) (filter (λ (x : Message). x.to == lp) xs) (Every (λ (x : Message). x.to ≡ lp))
    (λ e. (eqb-true x.to lp e, Every-passes lp xs))
    (λ _. Every-passes lp xs)

pub IsAscending-filter : (test : Message → Bool) (xs : List Message) → IsAscending xs → IsAscending (filter test xs)
IsAscending-filter test [] h = tt
IsAscending-filter test (x ∷ xs) h =
    cond_both (test x) (x ∷ filter test xs) (filter test xs) IsAscending
    (λ _. (Every-filter (IsAtMost x) test xs h.0, IsAscending-filter test xs h.1))
    (λ _. IsAscending-filter test xs h.1)

-- a filter keeps every copy of what passes
pub copies-filter : (x : Message) (test : Message → Bool) (xs : List Message) → test x ≡ true → copies x (filter test xs) ≡ copies x xs
copies-filter x test [] h = refl
copies-filter x test (y ∷ ys) h =
    cond_both (test y) (y ∷ filter test ys) (filter test ys) (λ zs. copies x zs ≡ one_if_same x y + copies x ys)
    (λ _. omega (arith, copies-filter x test ys h))
    (λ e. elim (one_if_same_cases x y) [
      | inl f ↦ absurd (both_ways (test y) e (subst (λ z. test z ≡ true) f.0 h))
      | inr f ↦ (let g = f.1 in omega (arith, copies-filter x test ys h))
    ])

pub Every-replicate : {X : Type 0} (P : X → Type 0) (n : ℕ) (x : X) → P x → Every P (replicate n x)
Every-replicate P zero x p = tt
Every-replicate P (suc n) x p = (p, Every-replicate P n x p)

pub option_map-none : {A B : Type 0} (f : A → B) (o : Option A) → option_map f o ≡ None → o ≡ None
option_map-none f None e = refl
option_map-none f (Some x) e = absurd (cc)

-- 2. The parts of a take

pub option_map_some : {A B : Type 0} (f : A → B) (o : Option A) (y : B) → option_map f o ≡ Some y → (x : A) × (o ≡ Some x) × (f x ≡ y)
option_map_some f None y e = absurd (none-some y e)
option_map_some f (Some x) y e = (x, refl, same_Some (f x) y e)

-- if the test says that there is a value, there is one
pub some_of : {X : Type 0} (o : Option X) → is_some o ≡ true → (x : X) × (o ≡ Some x)
some_of None is = absurd (cc)
some_of (Some x) is = (x, refl)

pub or_false : (b : Bool) → (b || false) ≡ b
or_false true = refl
or_false false = refl

pub Every-get_or-default : {X : Type 0} (P : X → Type 0) (xs : List X) (i : ℕ) (d : X) → Every P xs → P d → P (get_or xs i d)
Every-get_or-default P [] i d h k = k
Every-get_or-default P (x ∷ xs) zero d h k = h.0
Every-get_or-default P (x ∷ xs) (suc i) d h k = Every-get_or-default P xs i d h.1 k

pub map-replicate : {A B : Type 0} (f : A → B) (count : ℕ) (x : A) → map f (replicate count x) ≡ replicate count (f x)
map-replicate f zero x = refl
map-replicate f (suc count) x = ap (λ xs. f x ∷ xs) (map-replicate f count x)

pub not_same : (a b : ℕ) → a ≢ b → (a == b) ≡ false
not_same a b ne = elim (cases_Bool (a == b)) [
  | inl e ↦ absurd (ne (eqb-true a b e))
  | inr e ↦ e
]
