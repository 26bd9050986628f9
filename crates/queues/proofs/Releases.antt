-- The handlings before a time, and the rest.
use Rattle.std.proofs.Common.{◌≡◌, ℕ, zero, suc, Option, None, Some, ◌+◌, ◌-◌, List, [], ◌∷◌, sym, refl, ap, arith, nat_lt, ltb-false, ◌≤◌, inl, inr, ltb-true, ◌++◌, ◌∙◌, length, take, drop, true, false}
use Rattle.std.proofs.lemmas.Bool.{cases_Bool, cond_both, le-leb, le-ltb, lt-leb}
use Rattle.std.specs.List.{AllByRecursion as Every, filter}
use Rattle.eventkey.proofs.Lists.{Every-unmap, Every-weaker}
use Rattle.std.proofs.lemmas.List.{append-nil, length-append, take_at}
use Rattle.std.specs.Option.{option_to_list}
use Rattle.std.specs.Prelude.{MatchOption, nat_le}
use Rattle.eventkey.proofs.Bags.{time_from_at_most}
use Rattle.eventkey.specs.Bag.{copies, one_if_same}
use Rattle.eventkey.specs.Message.{IsAtMost, Message}
use Rattle.queues.specs.Record.{RecordsPart, Record, handled_before, handled_from, messages}

-- 1. Records before a time, and those from it on

pub copies-handled_before-le : (c : ℕ) (x : Message) (hs : List Record) → copies x (messages (handled_before c hs)) ≤ copies x (messages hs)
copies-handled_before-le c x [] = omega arith
copies-handled_before-le c x (r ∷ rs) =
    cond_both (nat_lt r.message.time c) (r ∷ handled_before c rs) []
    (λ zs. copies x (messages zs) ≤ one_if_same x r.message + copies x (messages rs))
    (λ _. omega (arith, copies-handled_before-le c x rs))
    (λ _. omega arith)

-- 2. What does not change

pub Every-handled_from : (P : Message → Type 0) (c : ℕ) (hs ds : List Record) → Every P (messages (hs ++ ds)) → Every P (messages (handled_from c hs ++ ds))
Every-handled_from P c [] ds h = h
Every-handled_from P c (r ∷ rs) ds h =
    cond_both (nat_lt r.message.time c) (handled_from c rs) (r ∷ rs) (λ zs. Every P (messages (zs ++ ds)))
    (λ _. Every-handled_from P c rs ds h.1)
    (λ _. h)

-- 3. Removing elements one by one

module _ {X : Type 0} where
  drop_suc : (xs ys : List X) (x : X) (n : ℕ) → x ∷ ys ≡ drop n xs → ys ≡ drop (suc n) xs
  drop_suc [] ys x zero e = absurd (cc)
  drop_suc [] ys x (suc n) e = absurd (cc)
  drop_suc (z ∷ zs) ys x zero e = cc
  drop_suc (z ∷ zs) ys x (suc n) e = drop_suc zs ys x n e

  pub drop_next : (xs ys : List X) (x : X) (n : ℕ) → x ∷ ys ≡ drop n xs → ys ≡ drop (n + 1) xs
  drop_next xs ys x n e = drop_suc xs ys x n e ∙ ap (λ (k : ℕ). drop k xs) {x = suc n} {y = n + 1} (omega arith)

  -- the last element removed, if there is one
  pub popped_is : (kept left : List X) (last : Option X) (long : ℕ) (None' : Type 0) (Some' : X → Type 0) → long ≡ length kept → kept ≡ left ++ option_to_list last → MatchOption last ((long ≡ 0) × None') Some' →
      left ≡ take (length kept - 1) kept
  popped_is [] left None long N S l e m = sym (append-nil left) ∙ sym e
  popped_is (k ∷ ks) left None long N S l e m = absurd (let zero_long = m.0 in omega arith)
  popped_is kept left (Some x) long N S l e m =
      sym (ap (λ (ks : List X). take (length ks - 1) ks) e ∙ take_at left (x ∷ []) (length (left ++ x ∷ []) - 1) (omega (arith, length-append left (x ∷ []))))

-- 4. Ascending lists

none_early : (c : ℕ) (hs : List Record) → Every (λ (h : Record). c ≤ h.message.time) hs → filter (λ (h : Record). nat_lt h.message.time c) hs ≡ []
none_early c [] l = refl
none_early c (h ∷ hs) l = rw (le-ltb h.message.time c l.0) (none_early c hs l.1)

all_late : (c : ℕ) (hs : List Record) → Every (λ (h : Record). c ≤ h.message.time) hs → filter (λ (h : Record). nat_le c h.message.time) hs ≡ hs
all_late c [] l = refl
all_late c (h ∷ hs) l = rw (le-leb c h.message.time l.0) (ap (λ (rs : List Record). h ∷ rs) (all_late c hs l.1))

pub records_part : RecordsPart
records_part c [] up = (refl, refl)
records_part c (h ∷ hs) up = elim (cases_Bool (nat_lt h.message.time c)) [
  | inl e ↦
      let early = ltb-true h.message.time c e in
      let fails : nat_le c h.message.time ≡ false = lt-leb c h.message.time early in
      let rest = records_part c hs up.1 in
      rw (e, fails) (ap (λ (rs : List Record). h ∷ rs) rest.0, rest.1)
  | inr e ↦
      let late = ltb-false h.message.time c e in
      let passes : nat_le c h.message.time ≡ true = le-leb c h.message.time late in
      let all : Every (λ (r : Record). c ≤ r.message.time) hs =
      Every-unmap (λ (x : Message). c ≤ x.time) (λ (r : Record). r.message) hs
      (Every-weaker (IsAtMost h.message) (λ (x : Message). c ≤ x.time) (λ x p. let t = time_from_at_most h.message x p in omega arith) (messages hs) up.0) in
      rw (e, passes) (sym (none_early c hs all), ap (λ (rs : List Record). h ∷ rs) (sym (all_late c hs all)))
]
