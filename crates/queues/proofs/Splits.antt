-- The waiting messages in two parts, with one message added or removed.
use Rattle.std.proofs.Common.{◌≡◌, ℕ, ◌<◌, ◌≤◌, List, [], ◌∷◌, ◌++◌, true, false, Some, None, refl, ap, sym, ◌∙◌, arith, length, drop, get_or, reverse, subst}
use Rattle.std.proofs.lemmas.Bool.{cond_both, lt-ltb, ltb-false, ltb-true}
use Rattle.std.proofs.lemmas.List.{append_assoc, length-reverse, reverse-append}
use Rattle.std.proofs.lemmas.Option.{none-some, same_Some}
use Rattle.std.specs.List.{AllByRecursion as Every, slice_get}
use Rattle.std.specs.Prelude.{nat_lt}
use Rattle.eventkey.proofs.Bags.{IsAscending-add, IsAscending-remove_one, at_most_from_before, at_most_itself, at_most_trans, copies-add, copies-append, is_same_itself, same_ascending}
use Rattle.eventkey.proofs.Lists.{Every-add, Every-append, Every-right, Every-weaker, IsAllAtMost, IsAscending-across, IsAscending-append, IsAscending-left, IsAscending-right, drop_here}
use Rattle.eventkey.specs.Bag.{IsAscending, add, copies, is_among, one_if_same, remove_one}
use Rattle.eventkey.specs.Message.{IsAtMost, Message, is_before, is_same}
use Rattle.queues.proofs.Buckets.{length-add}
use Rattle.queues.specs.Split.{IsSplit, both}

-- 1. Two lists that ascend together, with one message added to one of them

module _ (m : Message) (xs ys : List Message) (up : IsAscending (xs ++ ys)) where
  pub ascends-left : Every (IsAtMost m) ys → IsAscending (add m xs ++ ys)
  ascends-left most =
      IsAscending-append (add m xs) ys (IsAscending-add m xs (IsAscending-left xs ys up)) (IsAscending-right xs ys up)
      (across ys (IsAscending-across xs ys up) most)
    where
      across : (zs : List Message) → IsAllAtMost xs zs → Every (IsAtMost m) zs → IsAllAtMost (add m xs) zs
      across [] a h = tt
      across (z ∷ zs) a h = (Every-add (λ (x : Message). IsAtMost x z) m xs h.0 a.0, across zs a.1 h.1)

  pub add-left : Every (IsAtMost m) ys → add m xs ++ ys ≡ add m (xs ++ ys)
  add-left most = same_ascending (add m xs ++ ys) (add m (xs ++ ys)) (ascends-left most) (IsAscending-add m (xs ++ ys) up)
      (λ x. omega (arith, copies-append x (add m xs) ys, copies-add x m xs, copies-add x m (xs ++ ys), copies-append x xs ys))

  pub ascends-right : Every (λ (x : Message). IsAtMost x m) xs → IsAscending (xs ++ add m ys)
  ascends-right least =
      IsAscending-append xs (add m ys) (IsAscending-left xs ys up) (IsAscending-add m ys (IsAscending-right xs ys up))
      (Every-add (λ (y : Message). Every (λ (x : Message). IsAtMost x y) xs) m ys least (IsAscending-across xs ys up))

  pub add-right : Every (λ (x : Message). IsAtMost x m) xs → xs ++ add m ys ≡ add m (xs ++ ys)
  add-right least = same_ascending (xs ++ add m ys) (add m (xs ++ ys)) (ascends-right least) (IsAscending-add m (xs ++ ys) up)
      (λ x. omega (arith, copies-append x xs (add m ys), copies-add x m ys, copies-add x m (xs ++ ys), copies-append x xs ys))

remove_one-left : (m : Message) (xs ys : List Message) → 1 ≤ copies m xs → remove_one m (xs ++ ys) ≡ remove_one m xs ++ ys
remove_one-left m [] ys n = absurd (omega arith)
remove_one-left m (x ∷ xs) ys n =
    cond_both (is_same m x) xs (x ∷ remove_one m xs) (λ zs. remove_one m (x ∷ (xs ++ ys)) ≡ zs ++ ys)
    (λ e. rw e refl)
    (λ e. rw e (ap (λ (zs : List Message). x ∷ zs) (let f : one_if_same m x ≡ 0 = rw e in remove_one-left m xs ys (omega arith))))

remove_one-right : (m : Message) (xs ys : List Message) → copies m xs ≡ 0 → remove_one m (xs ++ ys) ≡ xs ++ remove_one m ys
remove_one-right m [] ys n = refl
remove_one-right m (x ∷ xs) ys n =
    cond_both (is_same m x) (xs ++ ys) (x ∷ remove_one m (xs ++ ys)) (λ zs. zs ≡ x ∷ (xs ++ remove_one m ys))
    (λ e. absurd (let f : one_if_same m x ≡ 1 = rw e in omega arith))
    (λ e. ap (λ (zs : List Message). x ∷ zs) (remove_one-right m xs ys (omega arith)))

some-removed : (m : Message) (xs : List Message) → 0 < length (remove_one m xs) → 0 < length xs
some-removed m [] h = h
some-removed m (x ∷ xs) h = omega arith

-- 2. The greatest message at hand

module _ (near far : List Message) (g : Message) (some : 0 < length near) (is : g ≡ get_or near 0 g) (up : IsAscending (both near far)) where
  pub greatest_first : near ≡ g ∷ drop 1 near
  greatest_first = drop_here near 0 g some is

  pub greatest_last : reverse near ≡ reverse (drop 1 near) ++ g ∷ []
  greatest_last = ap reverse greatest_first ∙ reverse-append (g ∷ []) (drop 1 near)

  up_last : IsAscending ((reverse (drop 1 near) ++ g ∷ []) ++ far)
  up_last = subst (λ (xs : List Message). IsAscending (xs ++ far)) greatest_last up

  pub at_most_greatest : Every (λ (x : Message). IsAtMost x g) (reverse near)
  at_most_greatest = subst (Every (λ (x : Message). IsAtMost x g)) (sym greatest_last)
      (Every-append (λ (x : Message). IsAtMost x g) (reverse (drop 1 near)) (g ∷ [])
      (IsAscending-across (reverse (drop 1 near)) (g ∷ []) (IsAscending-left (reverse (drop 1 near) ++ g ∷ []) far up_last)).0
      (at_most_itself g, tt))

  pub greatest_at_most : Every (IsAtMost g) far
  greatest_at_most =
      Every-weaker (λ (y : Message). Every (λ (x : Message). IsAtMost x y) (reverse (drop 1 near) ++ g ∷ [])) (IsAtMost g)
      (λ y h. (Every-right (λ (x : Message). IsAtMost x y) (reverse (drop 1 near)) (g ∷ []) h).0)
      far (IsAscending-across (reverse (drop 1 near) ++ g ∷ []) far up_last)

  -- the greatest message at hand goes to the others
  pub spilt : both (drop 1 near) (add g far) ≡ both near far
  spilt =
      let rest = reverse (drop 1 near) in
      let whole : IsAscending (rest ++ (g ∷ far)) = subst IsAscending (append_assoc rest (g ∷ []) far) up_last in
      let least : add g far ≡ g ∷ far = same_ascending (add g far) (g ∷ far) (IsAscending-add g far (IsAscending-right (rest ++ g ∷ []) far up_last)) (IsAscending-right rest (g ∷ far) whole) (λ x. copies-add x g far) in
      ap (λ (ys : List Message). rest ++ ys) least ∙ (sym (append_assoc rest (g ∷ []) far) ∙ ap (λ (xs : List Message). xs ++ far) (sym greatest_last))

  -- a message after it goes to the others
  pub goes_far : (m : Message) → is_before g m ≡ true → length near ≤ 32 → IsSplit near (add m far) × (both near (add m far) ≡ add m (both near far))
  goes_far m e few =
      let least = Every-weaker (λ (x : Message). IsAtMost x g) (λ (x : Message). IsAtMost x m) (λ x h. at_most_trans x g m h (at_most_from_before g m e)) (reverse near) at_most_greatest in
      (record { ascending = ascends-right m (reverse near) far up least; some = λ _. some; few = few }, add-right m (reverse near) far up least)

  pub near_enough : (m : Message) → is_before g m ≡ false → Every (IsAtMost m) far
  near_enough m e = Every-weaker (IsAtMost g) (IsAtMost m) (λ y h. at_most_trans m g y e h) far greatest_at_most

pub goes_near : (m : Message) (near far more : List Message) → IsAscending (both near far) → Every (IsAtMost m) far → reverse more ≡ add m (reverse near) → length near < 32 → IsSplit more far × (both more far ≡ add m (both near far))
goes_near m near far more up most is room =
    let same : both more far ≡ add m (both near far) = ap (λ (xs : List Message). xs ++ far) is ∙ add-left m (reverse near) far up most in (
      record {
        ascending = subst IsAscending (sym same) (IsAscending-add m (both near far) up);
        some = λ _. omega (arith, length-reverse more, ap length is, length-add m (reverse near));
        few = omega (arith, length-reverse more, ap length is, length-add m (reverse near), length-reverse near);
      },
      same,
    )

pub nothing_far : (m : Message) (far : List Message) → length far ≤ 0 → Every (IsAtMost m) far
nothing_far m [] l = tt
nothing_far m (x ∷ xs) l = absurd (omega arith)

-- 3. One message removed

pub taken_near : (m : Message) (near far less : List Message) → IsAscending (both near far) → is_among m (reverse near) ≡ true → reverse less ≡ remove_one m (reverse near) →
    (is_among m (both near far) ≡ true) × (both less far ≡ remove_one m (both near far)) × IsAscending (both less far)
taken_near m near far less up there is =
    let n = ltb-there m (reverse near) there in
    let same : both less far ≡ remove_one m (both near far) = ap (λ (xs : List Message). xs ++ far) is ∙ sym (remove_one-left m (reverse near) far n) in
    (lt-ltb 0 (copies m (both near far)) (omega (arith, copies-append m (reverse near) far)), same, subst IsAscending (sym same) (IsAscending-remove_one m (both near far) up))
  where
    ltb-there : (m : Message) (xs : List Message) → is_among m xs ≡ true → 1 ≤ copies m xs
    ltb-there m xs e = ltb-true 0 (copies m xs) e

pub taken_far : (m : Message) (near far : List Message) → IsSplit near far → is_among m (reverse near) ≡ false →
    (is_among m (both near far) ≡ is_among m far) × (both near (remove_one m far) ≡ remove_one m (both near far)) × IsSplit near (remove_one m far)
taken_far m near far k gone =
    let n : copies m (reverse near) ≡ 0 = (let l = ltb-false 0 (copies m (reverse near)) gone in omega arith) in
    let same : both near (remove_one m far) ≡ remove_one m (both near far) = sym (remove_one-right m (reverse near) far n) in (
      ap (λ (c : ℕ). nat_lt 0 c) (let e : copies m (both near far) ≡ copies m far = omega (arith, copies-append m (reverse near) far) in e),
      same,
      record { ascending = subst IsAscending (sym same) (IsAscending-remove_one m (both near far) k.ascending); some = λ h. k.some (some-removed m far h); few = k.few },
    )

pub none_at_hand : (near : List Message) → length near ≤ 0 → near ≡ []
none_at_hand [] l = refl
none_at_hand (x ∷ xs) l = absurd (omega arith)

pub nothing_first : (far : List Message) → slice_get far 0 ≡ None → length far ≤ 0
nothing_first [] e = omega arith
nothing_first (x ∷ xs) e = absurd (none-some x (sym e))

-- the least of the others comes to hand if no message is at hand
pub refilled : (near far : List Message) (least : Message) → near ≡ [] → slice_get far 0 ≡ Some least → both (least ∷ []) (remove_one least far) ≡ both near far
refilled near [] least none e = absurd (none-some least e)
refilled near (x ∷ xs) least none e =
    let same : x ≡ least = same_Some x least e in
    let without : remove_one least (x ∷ xs) ≡ xs = rw (ap (is_same least) same ∙ is_same_itself least) refl in
    ap (λ (ys : List Message). least ∷ ys) without ∙ (ap (λ (y : Message). y ∷ xs) (sym same) ∙ ap (λ (ns : List Message). reverse ns ++ (x ∷ xs)) (sym none))
