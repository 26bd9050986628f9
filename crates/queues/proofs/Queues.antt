-- The five cases of an arrival; no antimessage is ever in a queue beside its message.
use Rattle.std.proofs.Common.{◌≡◌, List, refl, ap, arith, length, ℕ, ◌+◌, ◌≤◌, true, ◌∙◌, inl, inr}
use Rattle.std.proofs.lemmas.Bool.{ltb-true, lt-ltb, cases_Bool, cond_both, ltb-false}
use Rattle.eventkey.proofs.Bags.{copies-add, copies-add_all, copies-append, copies-remove_one-le, one_if_same_cases}
use Rattle.eventkey.proofs.Lists.{Every-all}
use Rattle.std.specs.List.{AllByRecursion as Every}
use Rattle.eventkey.specs.Bag.{IsAscending, add_all, copies, is_among, one_if_same}
use Rattle.eventkey.specs.Message.{Message}
use Rattle.eventkey.specs.Signed.{minus, plus}
use Rattle.eventkey.specs.declared.Sign.{Sign}
use Rattle.eventkey.specs.declared.Sign.TheVariants.{Minus, Plus}
use Rattle.queues.proofs.Arrivals.{IsQueue, arrived_copies, arrived_kept}
use Rattle.queues.proofs.Halves.{last_kept}
use Rattle.queues.proofs.Places.{after-le, but_last-last_of, but_last_none, last_of_none, those_from}
use Rattle.queues.specs.declared.Arrival.TheVariants.{Annihilated, Queued, Waits}
use Rattle.queues.specs.Queue.{ArrivalsCountUndone, IsApart, Queue, QueuesArriveByCases, QueuesCount, QueuesStayApart, QueuesStayInOrder, after, arrival, arrived, back, back_of, but_last, last_of, settle, wait_again}

wait_again_none : (q : Queue) → wait_again 0 q ≡ q
wait_again_none q = λ i. record { done = but_last_none q.done i; waiting = add_all (last_of_none q.done i) q.waiting; antis = q.antis }

pub queues_arrive_by_cases : QueuesArriveByCases
queues_arrive_by_cases m q up = record {
  plus_meets = λ e. let b : back (plus m) q ≡ 0 = rw e refl in
      (b, ap (λ (n : ℕ). settle (plus m) (wait_again n q)) b ∙ (ap (settle (plus m)) (wait_again_none q) ∙ rw e refl));
  plus_waits = λ e. let b : back (plus m) q ≡ after m q.done = rw e refl in (b, ap (λ (n : ℕ). settle (plus m) (wait_again n q)) b ∙ rw e refl);
  minus_meets = λ e. let b : back (minus m) q ≡ 0 = rw e refl in
      (b, ap (λ (n : ℕ). settle (minus m) (wait_again n q)) b ∙ (ap (settle (minus m)) (wait_again_none q) ∙ rw e refl));
  minus_undoes = λ e f.
      let b : back (minus m) q ≡ after m q.done + 1 = rw (e, f) refl in
      let there : 1 ≤ copies m (last_of (after m q.done + 1) q.done) = (those_from m q.done up (ltb-true 0 (copies m q.done) f)).0 in
      let now : is_among m (add_all (last_of (after m q.done + 1) q.done) q.waiting) ≡ true = lt-ltb 0 (copies m (add_all (last_of (after m q.done + 1) q.done) q.waiting)) (omega (arith, copies-add_all m (last_of (after m q.done + 1) q.done) q.waiting)) in
      (b, ap (λ (n : ℕ). settle (minus m) (wait_again n q)) b ∙ rw now refl, there);
  minus_waits = λ e f. let b : back (minus m) q ≡ 0 = rw (e, f) refl in
      (b, ap (λ (n : ℕ). settle (minus m) (wait_again n q)) b ∙ (ap (settle (minus m)) (wait_again_none q) ∙ rw e refl));
}

-- no antimessage is beside its message
apart_by : (sign : Sign) (m : Message) (q : Queue) → IsAscending q.done → IsApart q → IsApart (arrived (record { sign = sign; message = m }) q)
apart_by Plus m q up h x n =
    let c = queues_arrive_by_cases m q up in
    elim (cases_Bool (is_among m q.antis)) [
      | inl e ↦
          let is = (c.plus_meets e).1 in
          let antis = ap (λ (r : Queue). copies x r.antis) is in
          let was = h x (omega (arith, copies-remove_one-le x m q.antis)) in
          (ap (λ (r : Queue). copies x r.done) is ∙ was.0, ap (λ (r : Queue). copies x r.waiting) is ∙ was.1)
      | inr e ↦
          let is = (c.plus_waits e).1 in
          let k = after m q.done in
          let antis = ap (λ (r : Queue). copies x r.antis) is in
          let was = h x (omega arith) in
          let a = was.0 in
          let b = was.1 in
          let split = ap (copies x) (but_last-last_of k q.done) in
          let none : copies m q.antis ≤ 0 = ltb-false 0 (copies m q.antis) e in
          let other : one_if_same x m ≡ 0 = elim (one_if_same_cases x m) [
            | inl f ↦ absurd (let g : copies x q.antis ≡ copies m q.antis = ap (λ (y : Message). copies y q.antis) f.0 in omega arith)
            | inr f ↦ f.1
          ] in
          let done = ap (λ (r : Queue). copies x r.done) is in
          let waiting = ap (λ (r : Queue). copies x r.waiting) is in (
            omega (arith, copies-append x (but_last k q.done) (last_of k q.done)),
            omega (arith, copies-append x (but_last k q.done) (last_of k q.done), copies-add x m (add_all (last_of k q.done) q.waiting), copies-add_all x (last_of k q.done) q.waiting),
          )
    ]
apart_by Minus m q up h x n =
    let c = queues_arrive_by_cases m q up in
    elim (cases_Bool (is_among m q.waiting)) [
      | inl e ↦
          let is = (c.minus_meets e).1 in
          let antis = ap (λ (r : Queue). copies x r.antis) is in
          let was = h x (omega arith) in
          let b = was.1 in
          let waiting = ap (λ (r : Queue). copies x r.waiting) is in
          (ap (λ (r : Queue). copies x r.done) is ∙ was.0, omega (arith, copies-remove_one-le x m q.waiting))
      | inr e ↦ elim (cases_Bool (is_among m q.done)) [
        | inl f ↦
            let is = (c.minus_undoes e f).1 in
            let k = after m q.done + 1 in
            let antis = ap (λ (r : Queue). copies x r.antis) is in
            let was = h x (omega arith) in
            let a = was.0 in
            let b = was.1 in
            let split = ap (copies x) (but_last-last_of k q.done) in
            let done = ap (λ (r : Queue). copies x r.done) is in
            let waiting = ap (λ (r : Queue). copies x r.waiting) is in (
              omega (arith, copies-append x (but_last k q.done) (last_of k q.done)),
              omega (arith, copies-append x (but_last k q.done) (last_of k q.done), copies-remove_one-le x m (add_all (last_of k q.done) q.waiting), copies-add_all x (last_of k q.done) q.waiting),
            )
        | inr f ↦
            let is = (c.minus_waits e f).1 in
            let antis = ap (λ (r : Queue). copies x r.antis) is in
            let done = ap (λ (r : Queue). copies x r.done) is in
            let waiting = ap (λ (r : Queue). copies x r.waiting) is in
            let no_wait : copies m q.waiting ≤ 0 = ltb-false 0 (copies m q.waiting) e in
            let no_done : copies m q.done ≤ 0 = ltb-false 0 (copies m q.done) f in
            elim (one_if_same_cases x m) [
              | inl g ↦
                  let a = ap (λ (y : Message). copies y q.waiting) g.0 in
                  let b = ap (λ (y : Message). copies y q.done) g.0 in
                  (omega arith, omega arith)
              | inr g ↦
                  let other = g.1 in
                  let was = h x (omega (arith, copies-add x m q.antis)) in
                  (done ∙ was.0, waiting ∙ was.1)
            ]
      ]
    ]

pub queues_stay_apart : QueuesStayApart
queues_stay_apart s q up h = apart_by s.sign s.message q up h

-- the lists stay in order
no_more : (xs : List Message) → Every (λ (x : Message). Unit {0}) xs
no_more xs = Every-all (λ (x : Message). Unit {0}) (λ _. tt) xs

pub queues_stay_in_order : QueuesStayInOrder
queues_stay_in_order s q h =
    let k : IsQueue (λ (x : Message). Unit {0}) (arrived s q) = arrived_kept (λ (x : Message). Unit {0}) s q tt (record {
      done_up = h.done;
      waiting_up = h.waiting;
      antis_up = h.antis;
      behind = h.behind;
      done_fits = no_more q.done;
      waiting_fits = no_more q.waiting;
      antis_fits = no_more q.antis;
    }) in
    record { done = k.done_up; waiting = k.waiting_up; antis = k.antis_up; behind = k.behind; apart = queues_stay_apart s q h.done h.apart }

-- the number in the answer of an arrival
counts_undone : (sign : Sign) (m : Message) (q : Queue) → back_of (arrival (record { sign = sign; message = m }) q) ≡ back (record { sign = sign; message = m }) q
counts_undone Plus m q = cond_both (is_among m q.antis) (Annihilated 0) (Queued (back (plus m) q)) (λ a. back_of a ≡ back (plus m) q) (λ e. rw e refl) (λ e. refl)
counts_undone Minus m q =
    cond_both (is_among m q.waiting) (Annihilated 0) _ (λ a. back_of a ≡ back (minus m) q)
    (λ e. rw e refl)
    (λ e. cond_both (is_among m q.done) (Annihilated (back (minus m) q)) Waits (λ a. back_of a ≡ back (minus m) q) (λ _. refl) (λ f. rw (e, f) refl))

back_within : (sign : Sign) (m : Message) (q : Queue) → IsAscending q.done → back (record { sign = sign; message = m }) q ≤ length q.done
back_within Plus m q up = cond_both (is_among m q.antis) 0 (after m q.done) (λ n. n ≤ length q.done) (λ _. omega arith) (λ _. after-le m q.done)
back_within Minus m q up =
    cond_both (is_among m q.waiting) 0 _ (λ n. n ≤ length q.done)
    (λ _. omega arith)
    (λ _. cond_both (is_among m q.done) (after m q.done + 1) 0 (λ n. n ≤ length q.done) (λ e. let l = (last_kept m q.done m up (ltb-true 0 (copies m q.done) e)).0 in omega arith) (λ _. omega arith))

pub arrivals_count_undone : ArrivalsCountUndone
arrivals_count_undone s q up = (counts_undone s.sign s.message q, back_within s.sign s.message q up)

pub queues_count : QueuesCount
queues_count = arrived_copies
