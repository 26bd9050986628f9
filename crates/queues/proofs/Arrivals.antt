-- The invariants that an arrival keeps, and where the messages of a queue go.
use Rattle.std.proofs.Common.{◌≡◌, ℕ, ◌+◌, false, true, [], ◌∷◌, refl, ap, arith, ◌++◌}
use Rattle.std.proofs.lemmas.Bool.{cond_both, ltb-true}
use Rattle.std.specs.List.{AllByRecursion as Every}
use Rattle.eventkey.proofs.Bags.{IsAscending-add, IsAscending-add_all, IsAscending-remove_one, at_most_from_before, copies-add, copies-add_all, copies-append, copies-remove_one}
use Rattle.eventkey.proofs.Lists.{Every-add, Every-add_all, Every-left, Every-remove_one, Every-right, Every-weaker, IsAllAtMost, IsAscending-across, IsAscending-left}
use Rattle.eventkey.specs.Bag.{IsAscending, add, copies, is_among, one_if_same, remove_one}
use Rattle.eventkey.specs.Message.{IsAtMost, Message, is_before}
use Rattle.eventkey.specs.Signed.{minus, of_sign, plus}
use Rattle.eventkey.specs.declared.Sign.{Sign}
use Rattle.eventkey.specs.declared.Sign.TheVariants.{Minus, Plus}
use Rattle.eventkey.specs.declared.Signed.{Signed}
use Rattle.queues.proofs.Places.{before_after, but_last-last_of, last_of_none, those_after, those_from}
use Rattle.queues.specs.Queue.{Queue, after, arrived, back, but_last, last_of, settle, wait_again}

-- 1. The invariants that an arrival keeps

pub record IsQueue (P : Message → Type 0) (k : Queue) : Type 0 where
  pub done_up : IsAscending k.done
  pub waiting_up : IsAscending k.waiting
  pub antis_up : IsAscending k.antis
  pub behind : IsAllAtMost k.done k.waiting
  pub done_fits : Every P k.done
  pub waiting_fits : Every P k.waiting
  pub antis_fits : Every P k.antis

module _ (P : Message → Type 0) where
  wait_again_kept : (n : ℕ) (k : Queue) → IsQueue P k → IsQueue P (wait_again n k)
  wait_again_kept n k h =
      let split = but_last-last_of n k.done in
      let up : IsAscending (but_last n k.done ++ last_of n k.done) = rw split h.done_up in
      let fits : Every P (but_last n k.done ++ last_of n k.done) = rw split h.done_fits in
      let behind : IsAllAtMost (but_last n k.done ++ last_of n k.done) k.waiting = rw split h.behind in
      record {
        done_up = IsAscending-left (but_last n k.done) (last_of n k.done) up;
        waiting_up = IsAscending-add_all (last_of n k.done) k.waiting h.waiting_up;
        antis_up = h.antis_up;
        behind =
            Every-add_all (λ (w : Message). Every (λ (d : Message). IsAtMost d w) (but_last n k.done)) (last_of n k.done) k.waiting
            (IsAscending-across (but_last n k.done) (last_of n k.done) up)
            (Every-weaker (λ (w : Message). Every (λ (d : Message). IsAtMost d w) (but_last n k.done ++ last_of n k.done)) (λ (w : Message). Every (λ (d : Message). IsAtMost d w) (but_last n k.done))
            (λ w p. Every-left (λ (d : Message). IsAtMost d w) (but_last n k.done) (last_of n k.done) p) k.waiting behind);
        done_fits = Every-left P (but_last n k.done) (last_of n k.done) fits;
        waiting_fits = Every-add_all P (last_of n k.done) k.waiting (Every-right P (but_last n k.done) (last_of n k.done) fits) h.waiting_fits;
        antis_fits = h.antis_fits;
      }

  settle_kept : (sign : Sign) (m : Message) (k : Queue) → P m → IsQueue P k → (sign ≡ Plus → is_among m k.antis ≡ false → Every (λ (d : Message). IsAtMost d m) k.done) →
      IsQueue P (settle (record { sign = sign; message = m }) k)
  settle_kept Plus m k p h late =
      cond_both (is_among m k.antis) (record k { antis = remove_one m k.antis }) (record k { waiting = add m k.waiting }) (IsQueue P)
      (λ e. record { done_up = h.done_up; waiting_up = h.waiting_up; antis_up = IsAscending-remove_one m k.antis h.antis_up; behind = h.behind; done_fits = h.done_fits; waiting_fits = h.waiting_fits; antis_fits = Every-remove_one P m k.antis h.antis_fits })
      (λ e. record { done_up = h.done_up; waiting_up = IsAscending-add m k.waiting h.waiting_up; antis_up = h.antis_up; behind = Every-add (λ (w : Message). Every (λ (d : Message). IsAtMost d w) k.done) m k.waiting (late refl e) h.behind; done_fits = h.done_fits; waiting_fits = Every-add P m k.waiting p h.waiting_fits; antis_fits = h.antis_fits })
  settle_kept Minus m k p h late =
      cond_both (is_among m k.waiting) (record k { waiting = remove_one m k.waiting }) (record k { antis = add m k.antis }) (IsQueue P)
      (λ e. record { done_up = h.done_up; waiting_up = IsAscending-remove_one m k.waiting h.waiting_up; antis_up = h.antis_up; behind = Every-remove_one (λ (w : Message). Every (λ (d : Message). IsAtMost d w) k.done) m k.waiting h.behind; done_fits = h.done_fits; waiting_fits = Every-remove_one P m k.waiting h.waiting_fits; antis_fits = h.antis_fits })
      (λ e. record { done_up = h.done_up; waiting_up = h.waiting_up; antis_up = IsAscending-add m k.antis h.antis_up; behind = h.behind; done_fits = h.done_fits; waiting_fits = h.waiting_fits; antis_fits = Every-add P m k.antis p h.antis_fits })

  arrived_kept_by : (sign : Sign) (m : Message) (k : Queue) → P m → IsQueue P k → IsQueue P (arrived (record { sign = sign; message = m }) k)
  arrived_kept_by Plus m k p h =
      settle_kept Plus m (wait_again (back (plus m) k) k) p (wait_again_kept (back (plus m) k) k h)
      (λ _ e. rw e (before_after m k.done h.done_up))
  arrived_kept_by Minus m k p h = settle_kept Minus m (wait_again (back (minus m) k) k) p (wait_again_kept (back (minus m) k) k h) (λ e. absurd (cc))

  pub arrived_kept : (s : Signed) (k : Queue) → P s.message → IsQueue P k → IsQueue P (arrived s k)
  arrived_kept s k p h = arrived_kept_by s.sign s.message k p h

-- the undone messages are not before what arrives
undone_from_by : (sign : Sign) (m : Message) (k : Queue) → IsAscending k.done → Every (IsAtMost m) (last_of (back (record { sign = sign; message = m }) k) k.done)
undone_from_by Plus m k up =
    cond_both (is_among m k.antis) 0 (after m k.done) (λ n. Every (IsAtMost m) (last_of n k.done))
    (λ _. rw last_of_none tt)
    (λ _. Every-weaker (λ (x : Message). is_before m x ≡ true) (IsAtMost m) (at_most_from_before m) (last_of (after m k.done) k.done) (those_after m k.done up))
undone_from_by Minus m k up =
    cond_both (is_among m k.waiting) 0 _ (λ n. Every (IsAtMost m) (last_of n k.done))
    (λ _. rw last_of_none tt)
    (λ _. cond_both (is_among m k.done) (after m k.done + 1) 0 (λ n. Every (IsAtMost m) (last_of n k.done))
    (λ e. (those_from m k.done up (ltb-true 0 (copies m k.done) e)).1)
    (λ _. rw last_of_none tt))

pub undone_from : (s : Signed) (k : Queue) → IsAscending k.done → Every (IsAtMost s.message) (last_of (back s k) k.done)
undone_from s k up = undone_from_by s.sign s.message k up

pub settle_done : (sign : Sign) (m : Message) (k : Queue) → (settle (record { sign = sign; message = m }) k).done ≡ k.done
settle_done Plus m k = cond_both (is_among m k.antis) (record k { antis = remove_one m k.antis }) (record k { waiting = add m k.waiting }) (λ (r : Queue). r.done ≡ k.done) (λ _. refl) (λ _. refl)
settle_done Minus m k = cond_both (is_among m k.waiting) (record k { waiting = remove_one m k.waiting }) (record k { antis = add m k.antis }) (λ (r : Queue). r.done ≡ k.done) (λ _. refl) (λ _. refl)

-- copies of a message: waiting, antimessages, and what arrived
settle_copies : (x : Message) (sign : Sign) (m : Message) (k : Queue) →
    copies x (settle (record { sign = sign; message = m }) k).waiting + copies x k.antis + copies x (of_sign Minus (record { sign = sign; message = m } ∷ []))
    ≡ copies x k.waiting + copies x (settle (record { sign = sign; message = m }) k).antis + copies x (of_sign Plus (record { sign = sign; message = m } ∷ []))
settle_copies x Plus m k =
    cond_both (is_among m k.antis) (record k { antis = remove_one m k.antis }) (record k { waiting = add m k.waiting })
    (λ (r : Queue). copies x r.waiting + copies x k.antis + 0 ≡ copies x k.waiting + copies x r.antis + (one_if_same x m + 0))
    (λ e. omega (arith, copies-remove_one x m k.antis (ltb-true 0 (copies m k.antis) e)))
    (λ _. omega (arith, copies-add x m k.waiting))
settle_copies x Minus m k =
    cond_both (is_among m k.waiting) (record k { waiting = remove_one m k.waiting }) (record k { antis = add m k.antis })
    (λ (r : Queue). copies x r.waiting + copies x k.antis + (one_if_same x m + 0) ≡ copies x k.waiting + copies x r.antis + 0)
    (λ e. omega (arith, copies-remove_one x m k.waiting (ltb-true 0 (copies m k.waiting) e)))
    (λ _. omega (arith, copies-add x m k.antis))

pub arrived_copies : (x : Message) (s : Signed) (k : Queue) →
    copies x (arrived s k).done + copies x (arrived s k).waiting + copies x k.antis + copies x (of_sign Minus (s ∷ []))
    ≡ copies x k.done + copies x k.waiting + copies x (arrived s k).antis + copies x (of_sign Plus (s ∷ []))
arrived_copies x s k =
    let n = back s k in
    let settled = settle_copies x s.sign s.message (wait_again n k) in
    let done = ap (copies x) (settle_done s.sign s.message (wait_again n k)) in
    let split = ap (copies x) (but_last-last_of n k.done) in
    omega (arith, copies-append x (but_last n k.done) (last_of n k.done), copies-add_all x (last_of n k.done) k.waiting)
