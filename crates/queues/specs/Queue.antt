-- The input queue of a process (Jefferson 1985): what an arrival undoes, annihilates or adds, and
-- its five cases.
use Rattle.std.specs.List.{AllByRecursion as Every, filter}
use Rattle.std.specs.Prelude.{ℕ, List, [], ◌∷◌, ◌++◌, length, if◌then◌else◌, nat_le, nat_lt, ◌+◌}
use Rattle.std.specs.Prelude.{◌≡◌, ◌≤◌, true, false, Option, Some, None}
use Rattle.eventkey.specs.Bag.{IsAscending, add, add_all, copies, is_among, least_time, remove_one}
use Rattle.eventkey.specs.Message.{IsAtMost, Message, is_before}
use Rattle.eventkey.specs.Signed.{minus, of_sign, plus}
use Rattle.eventkey.specs.declared.Sign.TheVariants.{Minus, Plus}
use Rattle.eventkey.specs.declared.Signed.{Signed}
use Rattle.queues.specs.declared.Arrival.{Arrival}
use Rattle.queues.specs.declared.Arrival.TheVariants.{Annihilated, Queued, Waits}

-- all but the last n elements
abbrev pub but_last : {X : Type 0} → ℕ → List X → List X
but_last n [] = []
but_last n (x ∷ xs) = if nat_lt (length xs) n then [] else x ∷ but_last n xs

-- the last n elements
abbrev pub last_of : {X : Type 0} → ℕ → List X → List X
last_of n [] = []
last_of n (x ∷ xs) = if nat_lt (length xs) n then x ∷ xs else last_of n xs

-- the number of messages in the list that are after m
abbrev pub after : Message → List Message → ℕ
after m [] = 0
after m (x ∷ xs) = if is_before m x then after m xs + 1 else after m xs

-- The messages of a process: the done ones, the waiting ones, and the waiting antimessages
pub record Queue : Type 0 where
  pub done : List Message
  pub waiting : List Message
  pub antis : List Message

-- The number of done messages that an arrival undoes
abbrev pub back : Signed → Queue → ℕ
back s q = elim s.sign [
  | Plus ↦ if is_among s.message q.antis then 0 else after s.message q.done
  | Minus ↦ if is_among s.message q.waiting then 0 else if is_among s.message q.done then after
      s.message q.done + 1 else 0
]

-- the last n done messages are undone: they wait again
abbrev pub wait_again : ℕ → Queue → Queue
wait_again n q = record {
  done = but_last n q.done;
  waiting = add_all (last_of n q.done) q.waiting;
  antis = q.antis;
}

-- the arriving message annihilates with its opposite, or waits
abbrev pub settle : Signed → Queue → Queue
settle s q = elim s.sign [
  | Plus ↦ if is_among s.message q.antis then record q { antis = remove_one s.message q.antis }
      else record q { waiting = add s.message q.waiting }
  | Minus ↦ if is_among s.message q.waiting then record q {
    waiting = remove_one s.message
        q.waiting;
  }
      else record q { antis = add s.message q.antis }
]

abbrev pub arrived : Signed → Queue → Queue
arrived s q = settle s (wait_again (back s q) q)

abbrev pub arrival : Signed → Queue → Arrival
arrival s q = elim s.sign [
  | Plus ↦ if is_among s.message q.antis then Annihilated 0 else Queued (back s q)
  | Minus ↦ if is_among s.message q.waiting then Annihilated 0 else if is_among s.message q.done
      then Annihilated (back s q) else Waits
]

-- the number of done messages that an arrival undid
abbrev pub back_of : Arrival → ℕ
back_of (Queued n) = n
back_of (Annihilated n) = n
back_of Waits = 0

-- the least waiting message, if its time is below end
abbrev pub first_before : ℕ → List Message → Option Message
first_before end [] = None
first_before end (x ∷ xs) = if nat_lt x.time end then Some x else None

-- the queue after the least waiting message is handled, if its time is below end
abbrev pub taken : ℕ → Queue → Queue
taken end q = elim (first_before end q.waiting) [
  | None ↦ q
  | Some x ↦ record { done = q.done ++ x ∷ []; waiting = remove_one x q.waiting; antis = q.antis }
]

-- the queue without the done messages below the floor
abbrev pub released : ℕ → Queue → Queue
released floor q = record q { done = filter (λ (x : Message). nat_le floor x.time) q.done }

-- the least time of these messages, if there are any
abbrev pub first_time : List Message → Option ℕ
first_time [] = None
first_time (x ∷ xs) = Some (least_time x.time xs)

-- no antimessage is in the queue beside its message
abbrev pub IsApart : Queue → Type 0
IsApart q = (x : Message) → 1 ≤ copies x q.antis → (copies x q.done ≡ 0) × (copies x q.waiting ≡ 0)

-- the invariant of every input queue
pub record IsInOrder (q : Queue) : Type 0 where
  pub done : IsAscending q.done
  pub waiting : IsAscending q.waiting
  pub antis : IsAscending q.antis
  -- no waiting message is less than the last done one
  pub behind : Every (λ (w : Message). Every (λ (d : Message). IsAtMost d w) q.done) q.waiting
  pub apart : IsApart q

-- the five cases of an arrival
pub record ArrivesByCases (m : Message) (q : Queue) : Type 0 where
  pub plus_meets : is_among m q.antis ≡ true → (back (plus m) q ≡ 0)
      × (arrived (plus m) q ≡ record q { antis = remove_one m q.antis })
  pub plus_waits : is_among m q.antis ≡ false → (back (plus m) q ≡ after m q.done)
      × (arrived (plus m) q ≡ record {
        done = but_last (after m q.done) q.done;
        waiting = add m
            (add_all (last_of (after m q.done) q.done) q.waiting);
        antis = q.antis;
      })
  pub minus_meets : is_among m q.waiting ≡ true → (back (minus m) q ≡ 0)
      × (arrived (minus m) q ≡ record q { waiting = remove_one m q.waiting })
  pub minus_undoes : is_among m q.waiting ≡ false → is_among m q.done ≡ true →
      (back (minus m) q ≡ after m q.done + 1)
      × (arrived (minus m) q ≡ record {
        done = but_last (after m q.done + 1) q.done;
        waiting =
            remove_one m (add_all (last_of (after m q.done + 1) q.done) q.waiting);
        antis = q.antis;
      })
      × (1 ≤ copies m (last_of (after m q.done + 1) q.done))
  pub minus_waits : is_among m q.waiting ≡ false → is_among m q.done ≡ false →
      (back (minus m) q ≡ 0) × (arrived (minus m) q ≡ record q { antis = add m q.antis })

abbrev pub QueuesArriveByCases : Type 0
QueuesArriveByCases = (m : Message) (q : Queue) → IsAscending q.done → ArrivesByCases m q

abbrev pub QueuesStayApart : Type 0
QueuesStayApart = (s : Signed) (q : Queue) → IsAscending q.done → IsApart q → IsApart (arrived s q)

abbrev pub QueuesStayInOrder : Type 0
QueuesStayInOrder = (s : Signed) (q : Queue) → IsInOrder q → IsInOrder (arrived s q)

-- For every message: the number of its copies done and waiting, less its antimessages, changes by
-- exactly what arrived.
abbrev pub QueuesCount : Type 0
QueuesCount = (x : Message) (s : Signed) (q : Queue) →
    copies x (arrived s q).done + copies x (arrived s q).waiting + copies x q.antis
    + copies x (of_sign Minus (s ∷ []))
    ≡ copies x q.done + copies x q.waiting + copies x (arrived s q).antis
    + copies x (of_sign Plus (s ∷ []))

-- The answer of an arrival gives the number of done messages that it undid, at most as many as
-- there were.
abbrev pub ArrivalsCountUndone : Type 0
ArrivalsCountUndone = (s : Signed) (q : Queue) → IsAscending q.done →
    (back_of (arrival s q) ≡ back s q) × (back s q ≤ length q.done)
