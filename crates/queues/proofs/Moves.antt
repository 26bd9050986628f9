-- The lists that the code makes are those of the queue after an arrival.
use Rattle.std.proofs.Common.{◌≡◌, ℕ, ◌+◌, ◌-◌, ◌<◌, List, [], ◌∷◌, ◌++◌, true, false, refl, ap, sym, ◌∙◌, arith, length, take, get_or}
use Rattle.std.proofs.lemmas.Bool.{ltb-true}
use Rattle.std.proofs.lemmas.List.{append_assoc, length-append, length-drop, take_at, take_more}
use Rattle.std.specs.List.{AllByRecursion as Every}
use Rattle.eventkey.proofs.Bags.{IsAscending-add_all, copies-add_all, copies-append, same_ascending, is_same_itself}
use Rattle.eventkey.proofs.Lists.{Every-weaker, Every-right, IsAllAtMost, IsAscending-append, IsAscending-right}
use Rattle.eventkey.specs.Bag.{IsAscending, add, add_all, copies, is_among, remove_one}
use Rattle.eventkey.specs.Message.{IsAtMost, Message}
use Rattle.eventkey.specs.Signed.{minus, plus}
use Rattle.queues.proofs.Halves.{last_kept}
use Rattle.queues.proofs.Places.{but_last-last_of}
use Rattle.queues.proofs.Queues.{queues_arrive_by_cases}
use Rattle.queues.proofs.Undone.{but_last-append, last_of-append, but_last-take, last_of-drop, put_first}
use Rattle.queues.specs.Queue.{IsInOrder, Queue, after, arrival, arrived, but_last, last_of}
use Rattle.queues.specs.declared.Arrival.TheVariants.{Annihilated, Queued, Waits}

-- if xs precedes ys, adding xs to ys puts it in front
pub add_all-ascending : (xs ys : List Message) → IsAscending (xs ++ ys) → add_all xs ys ≡ xs ++ ys
add_all-ascending xs ys up =
    same_ascending (add_all xs ys) (xs ++ ys) (IsAscending-add_all xs ys (IsAscending-right xs ys up)) up (λ x. omega (arith, copies-add_all x xs ys, copies-append x xs ys))

pub undone_ascending : (n : ℕ) (q : Queue) → IsInOrder q → IsAscending (last_of n q.done ++ q.waiting)
undone_ascending n q h =
    let split = but_last-last_of n q.done in
    let up : IsAscending (but_last n q.done ++ last_of n q.done) = rw split h.done in
    let behind : IsAllAtMost (but_last n q.done ++ last_of n q.done) q.waiting = rw split h.behind in
    IsAscending-append (last_of n q.done) q.waiting (IsAscending-right (but_last n q.done) (last_of n q.done) up) h.waiting
    (Every-weaker (λ (w : Message). Every (λ (d : Message). IsAtMost d w) (but_last n q.done ++ last_of n q.done)) (λ (w : Message). Every (λ (d : Message). IsAtMost d w) (last_of n q.done))
    (λ w p. Every-right (λ (d : Message). IsAtMost d w) (but_last n q.done) (last_of n q.done) p) q.waiting behind)

pub same_queue : (q r : Queue) → q.done ≡ r.done → q.waiting ≡ r.waiting → q.antis ≡ r.antis → q ≡ r
same_queue q r d w a = λ i. record { done = d i; waiting = w i; antis = a i }

pub remove_first : (m : Message) (xs : List Message) → remove_one m (m ∷ xs) ≡ xs
remove_first m xs = rw (is_same_itself m) refl

module _ (m : Message) (q new : Queue) (h : IsInOrder q) where
  pub plus_met : is_among m q.antis ≡ true → new.done ≡ q.done → new.waiting ≡ q.waiting → new.antis ≡ remove_one m q.antis → new ≡ arrived (plus m) q
  plus_met e d w a = same_queue new _ d w a ∙ sym ((queues_arrive_by_cases m q h.done).plus_meets e).1

  pub plus_met_answer : is_among m q.antis ≡ true → Annihilated 0 ≡ arrival (plus m) q
  plus_met_answer e = rw e refl

  pub plus_stayed : (n : ℕ) → is_among m q.antis ≡ false → n ≡ after m q.done → new.done ≡ but_last n q.done → new.waiting ≡ add_all (last_of n q.done) (add m q.waiting) → new.antis ≡ q.antis → new ≡ arrived (plus m) q
  plus_stayed n e k d w a =
      let is : new ≡ record { done = but_last n q.done; waiting = add m (add_all (last_of n q.done) q.waiting); antis = q.antis } = same_queue new _ d (w ∙ put_first m (last_of n q.done) q.waiting h.waiting) a in
      is ∙ (ap (λ (i : ℕ). record { done = but_last i q.done; waiting = add m (add_all (last_of i q.done) q.waiting); antis = q.antis }) k ∙ sym ((queues_arrive_by_cases m q h.done).plus_waits e).1)

  pub plus_stayed_answer : (n : ℕ) → is_among m q.antis ≡ false → n ≡ after m q.done → Queued n ≡ arrival (plus m) q
  plus_stayed_answer n e k = rw e (ap Queued k)

  pub minus_met : is_among m q.waiting ≡ true → new.done ≡ q.done → new.waiting ≡ remove_one m q.waiting → new.antis ≡ q.antis → new ≡ arrived (minus m) q
  minus_met e d w a = same_queue new _ d w a ∙ sym ((queues_arrive_by_cases m q h.done).minus_meets e).1

  pub minus_met_answer : is_among m q.waiting ≡ true → Annihilated 0 ≡ arrival (minus m) q
  minus_met_answer e = rw e refl

  -- the last message that is not after m is m, and is removed with those after it
  pub minus_undone : (n : ℕ) (kept : List Message) → is_among m q.waiting ≡ false → is_among m q.done ≡ true → n ≡ after m q.done → kept ≡ but_last n q.done → new.done ≡ take (length kept - 1) kept →
      new.waiting ≡ add_all (last_of n q.done) q.waiting → new.antis ≡ q.antis → new ≡ arrived (minus m) q
  minus_undone n kept e f k b d w a =
      let last = last_kept m q.done m h.done (ltb-true 0 (copies m q.done) f) in
      let short : n < length q.done = rw k last.0 in
      let i : ℕ = length q.done - n - 1 in
      let front : List Message = take i q.done in
      let later : List Message = last_of n q.done in
      let at : get_or q.done i m ≡ m = rw k last.1 in
      let ends : but_last n q.done ≡ front ++ m ∷ [] =
      but_last-take n q.done (omega arith) ∙ (ap (λ (l : ℕ). take l q.done) (let l : length q.done - n ≡ i + 1 = omega arith in l) ∙ (take_more q.done i m (omega arith) ∙ ap (λ (x : Message). front ++ x ∷ []) at)) in
      let whole : q.done ≡ front ++ m ∷ later = sym (but_last-last_of n q.done) ∙ (ap (λ (ys : List Message). ys ++ later) ends ∙ append_assoc front (m ∷ []) later) in
      let long : length later ≡ n = ap length (last_of-drop n q.done (omega arith)) ∙ (length-drop (length q.done - n) q.done ∙ (let l : length q.done - (length q.done - n) ≡ n = omega arith in l)) in
      let done : but_last (n + 1) q.done ≡ front = ap (but_last (n + 1)) whole ∙ but_last-append front (m ∷ later) (n + 1) (omega arith) in
      let undone : last_of (n + 1) q.done ≡ m ∷ later = ap (last_of (n + 1)) whole ∙ last_of-append front (m ∷ later) (n + 1) (omega arith) in
      let kept_is : kept ≡ front ++ m ∷ [] = b ∙ ends in
      let left : take (length kept - 1) kept ≡ front =
      ap (λ (ys : List Message). take (length ys - 1) ys) kept_is ∙ take_at front (m ∷ []) (length (front ++ m ∷ []) - 1) (omega (arith, length-append front (m ∷ []))) in
      let all = add_all-ascending (last_of (n + 1) q.done) q.waiting (undone_ascending (n + 1) q h) in
      let waits : remove_one m (add_all (last_of (n + 1) q.done) q.waiting) ≡ later ++ q.waiting =
      ap (remove_one m) (all ∙ ap (λ (ys : List Message). ys ++ q.waiting) undone) ∙ remove_first m (later ++ q.waiting) in
      let is : new ≡ record { done = but_last (n + 1) q.done; waiting = remove_one m (add_all (last_of (n + 1) q.done) q.waiting); antis = q.antis } = same_queue new _ (d ∙ (left ∙ sym done)) (w ∙ (add_all-ascending later q.waiting (undone_ascending n q h) ∙ sym waits)) a in
      is ∙ (ap (λ (l : ℕ). record { done = but_last (l + 1) q.done; waiting = remove_one m (add_all (last_of (l + 1) q.done) q.waiting); antis = q.antis }) k ∙ sym ((queues_arrive_by_cases m q h.done).minus_undoes e f).1)

  pub minus_undone_answer : (n : ℕ) → is_among m q.waiting ≡ false → is_among m q.done ≡ true → n ≡ after m q.done → Annihilated (n + 1) ≡ arrival (minus m) q
  minus_undone_answer n e f k = rw (e, f) (ap (λ (i : ℕ). Annihilated (i + 1)) k)

  pub minus_stayed : is_among m q.waiting ≡ false → is_among m q.done ≡ false → new.done ≡ q.done → new.waiting ≡ q.waiting → new.antis ≡ add m q.antis → new ≡ arrived (minus m) q
  minus_stayed e f d w a = same_queue new _ d w a ∙ sym ((queues_arrive_by_cases m q h.done).minus_waits e f).1

  pub minus_stayed_answer : is_among m q.waiting ≡ false → is_among m q.done ≡ false → Waits ≡ arrival (minus m) q
  minus_stayed_answer e f = rw (e, f) refl
