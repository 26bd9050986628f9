-- The least message of a bag, and the least time of two bags.
use Rattle.std.proofs.Common.{◌≡◌, ℕ, ◌+◌, ◌<◌, ◌≤◌, List, [], ◌∷◌, ◌++◌, Some, None, true, false, refl, ap, sym, ◌∙◌, arith, length, get_or, drop, min, subst, zero, suc, inl, inr}
use Rattle.std.proofs.lemmas.Bool.{cases_Bool, cond_both, le-leb, lt-leb, lt-ltb, ltb-true, ltb-false}
use Rattle.std.proofs.lemmas.List.{append-nil}
use Rattle.std.proofs.lemmas.Option.{same_Some, none-some}
use Rattle.std.specs.List.{AllByRecursion as Every, AllWithin, slice_get}
use Rattle.std.specs.Prelude.{filter, nat_le, nat_lt}
use Rattle.eventkey.proofs.Bags.{copies-append, least_time-append, least_time-min, time_from_at_most}
use Rattle.eventkey.proofs.Lists.{Every-append, Every-filter, Every-weaker, IsAscending-append, IsAscending-filter, IsAllAtMost}
use Rattle.eventkey.specs.Bag.{IsAscending, copies, least_time, one_if_same, remove_one}
use Rattle.eventkey.specs.Message.{IsAtMost, Message}
use Rattle.queues.proofs.Halves.{ascending_at}
use Rattle.queues.proofs.Moves.{remove_first, same_queue}
use Rattle.queues.specs.Queue.{IsInOrder, Queue, first_before, first_time, released, taken}

-- 1. The least time of a list

pub least_of_ascending : (xs : List Message) (x : Message) → IsAscending (x ∷ xs) → least_time x.time xs ≡ x.time
least_of_ascending [] x up = refl
least_of_ascending (y ∷ ys) x up =
    let late = time_from_at_most x y up.0.0 in
    ap (λ (t : ℕ). least_time t ys) (let e : min x.time y.time ≡ x.time = omega arith in e) ∙ least_of_ascending ys x (up.0.1, up.1.1)

pub first_is : (xs : List Message) (x : Message) → IsAscending xs → Some x ≡ slice_get xs 0 → Some x.time ≡ first_time xs
first_is [] x up e = absurd (none-some x (sym e))
first_is (y ∷ ys) x up e = ap (λ (z : Message). Some z.time) (same_Some x y e) ∙ ap Some (sym (least_of_ascending ys y up))

pub none_first : (xs : List Message) → None ≡ slice_get xs 0 → None ≡ first_time xs
none_first [] e = refl
none_first (y ∷ ys) e = absurd (none-some y e)

-- 2. The least time of two lists

pub first_time-both : (xs ys : List Message) (a b : ℕ) → Some a ≡ first_time xs → Some b ≡ first_time ys → Some (min a b) ≡ first_time (xs ++ ys)
first_time-both [] ys a b e f = absurd (none-some a (sym e))
first_time-both (x ∷ xs) [] a b e f = absurd (none-some b (sym f))
first_time-both (x ∷ xs) (y ∷ ys) a b e f =
    let a_is = same_Some a (least_time x.time xs) e in
    let b_is = same_Some b (least_time y.time ys) f in
    ap Some (ap (λ (t : ℕ). min t b) a_is ∙ (ap (min (least_time x.time xs)) b_is ∙ (sym (least_time-min (least_time x.time xs) y.time ys) ∙ sym (least_time-append x.time xs (y ∷ ys)))))

pub first_time-left : (xs ys : List Message) (a : ℕ) → Some a ≡ first_time xs → None ≡ first_time ys → Some a ≡ first_time (xs ++ ys)
first_time-left xs [] a e f = e ∙ ap first_time (sym (append-nil xs))
first_time-left xs (y ∷ ys) a e f = absurd (none-some (least_time y.time ys) f)

pub first_time-right : (xs ys : List Message) → None ≡ first_time xs → first_time ys ≡ first_time (xs ++ ys)
first_time-right [] ys e = refl
first_time-right (x ∷ xs) ys e = absurd (none-some (least_time x.time xs) e)

-- 3. Handling the least waiting message

pub first_before_is : (end : ℕ) (xs : List Message) (x : Message) → first_before end xs ≡ Some x → (rest : List Message) × (xs ≡ x ∷ rest)
first_before_is end [] x e = absurd (none-some x e)
first_before_is end (y ∷ ys) x e = elim (cases_Bool (nat_lt y.time end)) [
  | inl t ↦ let now = rw t at e in (ys, ap (λ (z : Message). z ∷ ys) (same_Some y x now))
  | inr t ↦ absurd (let now = rw t at e in none-some x now)
]

pub first_gone : (end : ℕ) (xs : List Message) (x : Message) → first_before end xs ≡ Some x → drop 1 xs ≡ remove_one x xs
first_gone end xs x e =
    let is = first_before_is end xs x e in
    rw is.1 (sym (remove_first x is.0))

pub taken_is : (end : ℕ) (q new : Queue) (x : Message) → first_before end q.waiting ≡ Some x → new.done ≡ q.done ++ x ∷ [] → new.waiting ≡ remove_one x q.waiting → new.antis ≡ q.antis → new ≡ taken end q
taken_is end q new x e d w a = rw (e, taken) (same_queue new _ d w a)

-- the lists stay in order
pub taken_in_order : (end : ℕ) (q : Queue) (x : Message) → first_before end q.waiting ≡ Some x → IsInOrder q → IsInOrder (taken end q)
taken_in_order end q x e h =
    let f = first_before_is end q.waiting x e in
    let rest : List Message = f.0 in
    let left : remove_one x q.waiting ≡ rest = ap (remove_one x) f.1 ∙ remove_first x rest in
    let up : IsAscending (x ∷ rest) = subst IsAscending f.1 h.waiting in
    let behind : IsAllAtMost q.done (x ∷ rest) = subst (λ (ws : List Message). IsAllAtMost q.done ws) f.1 h.behind in
    rw (e, taken) (record {
      done = IsAscending-append q.done (x ∷ []) h.done (tt, tt) (behind.0, tt);
      waiting = subst IsAscending (sym left) up.1;
      antis = h.antis;
      behind = subst (λ (ws : List Message). IsAllAtMost (q.done ++ x ∷ []) ws) (sym left) (one_more rest behind.1 up.0);
      apart = λ y n.
          let k = h.apart y n in
          let done = k.0 in
          let waiting = k.1 in
          let was = ap (copies y) f.1 in
          let now = ap (copies y) left in
          (omega (arith, copies-append y q.done (x ∷ [])), omega arith);
    })
  where
    one_more : (ws : List Message) → IsAllAtMost q.done ws → Every (IsAtMost x) ws → IsAllAtMost (q.done ++ x ∷ []) ws
    one_more [] a b = tt
    one_more (v ∷ ws) a b = (Every-append (λ (d : Message). IsAtMost d v) q.done (x ∷ []) a.0 (b.0, tt), one_more ws a.1 b.1)

-- 4. Dropping the done messages before the floor

pub early_parted : (floor : ℕ) (xs : List Message) → IsAscending xs → (i j : ℕ) (d : Message) → i ≤ j → j < length xs → nat_lt (get_or xs j d).time floor ≡ true → nat_lt (get_or xs i d).time floor ≡ true
early_parted floor xs up i j d l h e =
    let t = ltb-true (get_or xs j d).time floor e in
    lt-ltb (get_or xs i d).time floor (omega (arith, time_from_at_most (get_or xs i d) (get_or xs j d) (ascending_at xs i j d up l h)))

pub dropped_is : (floor : ℕ) (xs : List Message) (n : ℕ) → n ≤ length xs → AllWithin (λ (y : Message). nat_lt y.time floor ≡ true) xs 0 n → AllWithin (λ (y : Message). nat_lt y.time floor ≡ false) xs n (length xs) →
    drop n xs ≡ filter (λ (x : Message). nat_le floor x.time) xs
dropped_is floor [] zero l h k = refl
dropped_is floor [] (suc n) l h k = refl
dropped_is floor (x ∷ xs) zero l h k =
    let late = ltb-false x.time floor (k zero x (omega arith) (omega arith)) in
    let passes : nat_le floor x.time ≡ true = le-leb floor x.time late in
    rw passes (ap (λ (ys : List Message). x ∷ ys) (dropped_is floor xs zero (omega arith) (λ j d a b. absurd (omega arith)) (λ j d a b. k (suc j) d (omega arith) (omega arith))))
dropped_is floor (x ∷ xs) (suc n) l h k =
    let early = ltb-true x.time floor (h zero x (omega arith) (omega arith)) in
    let fails : nat_le floor x.time ≡ false = lt-leb floor x.time early in
    rw fails (dropped_is floor xs n (omega arith) (λ j d a b. h (suc j) d (omega arith) (omega arith)) (λ j d a b. k (suc j) d (omega arith) (omega arith)))

copies-filter-le : (x : Message) (floor : ℕ) (xs : List Message) → copies x (filter (λ (y : Message). nat_le floor y.time) xs) ≤ copies x xs
copies-filter-le x floor [] = omega arith
copies-filter-le x floor (y ∷ ys) =
    cond_both (nat_le floor y.time) (y ∷ filter (λ (z : Message). nat_le floor z.time) ys) (filter (λ (z : Message). nat_le floor z.time) ys) (λ zs. copies x zs ≤ one_if_same x y + copies x ys)
    (λ _. omega (arith, copies-filter-le x floor ys)) (λ _. omega (arith, copies-filter-le x floor ys))

pub released_in_order : (floor : ℕ) (q : Queue) → IsInOrder q → IsInOrder (released floor q)
released_in_order floor q h =
    let test = λ (x : Message). nat_le floor x.time in
    record {
      done = IsAscending-filter test q.done h.done;
      waiting = h.waiting;
      antis = h.antis;
      behind = Every-weaker (λ (w : Message). Every (λ (d : Message). IsAtMost d w) q.done) (λ (w : Message). Every (λ (d : Message). IsAtMost d w) (filter test q.done))
          (λ w p. Every-filter (λ (d : Message). IsAtMost d w) test q.done p) q.waiting h.behind;
      apart = λ y n. (let k = (h.apart y n).0 in omega (arith, copies-filter-le y floor q.done), (h.apart y n).1);
    }

-- 5. A queue in which messages wait, and nothing else

pub waiting_in_order : (q : Queue) → q.done ≡ [] → IsAscending q.waiting → q.antis ≡ [] → IsInOrder q
waiting_in_order q d up a = record {
  done = subst IsAscending (sym d) tt;
  waiting = up;
  antis = subst IsAscending (sym a) tt;
  behind = subst (λ (ds : List Message). IsAllAtMost ds q.waiting) (sym d) (all_behind q.waiting);
  apart = λ y n. absurd (let none = ap (copies y) a in omega arith);
}
  where
    all_behind : (ws : List Message) → IsAllAtMost [] ws
    all_behind [] = tt
    all_behind (w ∷ ws) = (tt, all_behind ws)
