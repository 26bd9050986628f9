-- No rollback reaches what is before the floor, so it can be released.
use Rattle.std.proofs.Common.{◌≡◌, ℕ, ◌+◌, ◌≤◌, ◌<◌, List, [], ◌∷◌, ◌++◌, length, map, refl, ap, sym, ◌∙◌, arith, inl, inr, subst}
use Rattle.std.proofs.lemmas.Bool.{cases_Bool, le-ltb, lt-ltb}
use Rattle.std.proofs.lemmas.List.{length-append, length-map, map-append}
use Rattle.std.specs.List.{AllByRecursion as Every}
use Rattle.std.specs.Prelude.{if◌then◌else◌, nat_lt}
use Rattle.eventkey.proofs.Bags.{at_most_from_before, copies-append, earlier_before, none_from_Every, time_from_at_most}
use Rattle.eventkey.proofs.Lists.{Every-left, Every-unmap, Every-weaker, IsAscending-right}
use Rattle.eventkey.specs.Bag.{IsAscending, add_all, copies, is_among}
use Rattle.eventkey.specs.Message.{IsAtMost, Message}
use Rattle.eventkey.specs.Signed.{minus}
use Rattle.eventkey.specs.declared.Sign.{Sign}
use Rattle.eventkey.specs.declared.Sign.TheVariants.{Minus, Plus}
use Rattle.queues.proofs.Arrivals.{undone_from}
use Rattle.queues.proofs.Places.{but_last-last_of, map-last_of}
use Rattle.queues.proofs.Queues.{arrivals_count_undone}
use Rattle.queues.specs.Queue.{after, back, but_last, last_of, settle}
use Rattle.queues.specs.Record.{Record, handled_before, handled_from, messages, number_before, sent_in, state_before}
use Rattle.process.proofs.HandlingLaws.{before_is_below, from_is_late, handled_before-from}
use Rattle.process.proofs.Histories.{number_before-append, state_before-append}
use Rattle.process.specs.Process.{handling_of, queue_of, release, reported}
use Rattle.process.specs.Consistent.{FossilsAreFinal, ReleasesAreUnseen, RollbacksStayAbove}

-- 1. Records with late ends or early beginnings

abbrev pub IsLate : ℕ → Record → Type 0
IsLate floor h = floor ≤ h.message.time

module _ (floor : ℕ) where
  before-late : (hs : List Record) → Every (IsLate floor) hs → handled_before floor hs ≡ []
  before-late [] l = refl
  before-late (h ∷ hs) l = rw (le-ltb h.message.time floor l.0) refl

  from-late : (hs : List Record) → Every (IsLate floor) hs → handled_from floor hs ≡ hs
  from-late [] l = refl
  from-late (h ∷ hs) l = rw (le-ltb h.message.time floor l.0) refl

  before-append : (hs ks : List Record) → Every (IsLate floor) ks → handled_before floor (hs ++ ks) ≡ handled_before floor hs
  before-append [] ks l = before-late ks l
  before-append (h ∷ hs) ks l = elim (cases_Bool (nat_lt h.message.time floor)) [
    | inl e ↦ rw e (ap (λ (rs : List Record). h ∷ rs) (before-append hs ks l))
    | inr e ↦ rw e refl
  ]

  from-append : (hs ks : List Record) → Every (IsLate floor) ks → handled_from floor (hs ++ ks) ≡ handled_from floor hs ++ ks
  from-append [] ks l = from-late ks l
  from-append (h ∷ hs) ks l = elim (cases_Bool (nat_lt h.message.time floor)) [
    | inl e ↦ rw e (from-append hs ks l)
    | inr e ↦ rw e refl
  ]

  from-early : (hs ks : List Record) → Every (λ (h : Record). h.message.time < floor) hs → handled_from floor (hs ++ ks) ≡ handled_from floor ks
  from-early [] ks e = refl
  from-early (h ∷ hs) ks e = rw (lt-ltb h.message.time floor e.0) (from-early hs ks e.1)

reported-append : (floor : ℕ) (hs ks : List Record) (state : List ℕ) (number : ℕ) → Every (IsLate floor) ks →
    reported (handled_before floor (hs ++ ks)) (state_before (handled_from floor (hs ++ ks)) state) (number_before (handled_from floor (hs ++ ks)) number)
    ≡ reported (handled_before floor hs) (state_before (handled_from floor hs) (state_before ks state)) (number_before (handled_from floor hs) (number_before ks number))
reported-append floor hs ks state number l =
    rw (before-append floor hs ks l, from-append floor hs ks l, state_before-append (handled_from floor hs) ks state, number_before-append (handled_from floor hs) ks number) refl

-- 2. The records before the floor

pub rollbacks_stay_above : RollbacksStayAbove
rollbacks_stay_above floor s q up late =
    let n = back s (queue_of q) in
    let undone : Every (IsAtMost s.message) (messages (last_of n q.done)) = rw map-last_of (undone_from s (queue_of q) up) in
    Every-weaker (λ (h : Record). IsAtMost s.message h.message) (IsLate floor) (λ h p. let t = time_from_at_most s.message h.message p in omega arith) (last_of n q.done)
    (Every-unmap (IsAtMost s.message) (λ (h : Record). h.message) (last_of n q.done) undone)

pub fossils_are_final : FossilsAreFinal
fossils_are_final floor q up = (
  λ s late.
      let n = back s (queue_of q) in
      sym (reported-append floor (but_last n q.done) (last_of n q.done) q.state q.number (rollbacks_stay_above floor s q up late))
      ∙ ap (λ (hs : List Record). reported (handled_before floor hs) (state_before (handled_from floor hs) q.state) (number_before (handled_from floor hs) q.number)) (but_last-last_of n q.done),
  λ m lp x late. reported-append floor q.done (handling_of m lp x q ∷ []) (m.next_state lp q.state x) (q.number + length (handling_of m lp x q).sent) (late, tt),
)

-- 3. Released records

module _ (floor : ℕ) (m : Message) (late : floor ≤ m.time) where
  after-early : (xs ys : List Message) → Every (λ (x : Message). x.time < floor) xs → after m (xs ++ ys) ≡ after m ys
  after-early [] ys e = refl
  after-early (x ∷ xs) ys e =
      let first : x.time < floor = e.0 in
      rw (at_most_from_before x m (earlier_before x m (omega arith))) (after-early xs ys e.1)

  among-early : (xs ys : List Message) → Every (λ (x : Message). x.time < floor) xs → is_among m (xs ++ ys) ≡ is_among m ys
  among-early xs ys e =
      let none : copies m xs ≡ 0 = none_from_Every (λ (x : Message). x.time < floor) xs m e (λ k. let early : m.time < floor = k in absurd (omega arith)) in
      let same : copies m (xs ++ ys) ≡ copies m ys = omega (arith, copies-append m xs ys) in
      ap (nat_lt 0) same

module _ {X : Type 0} where
  last_of-late : (xs ys : List X) (n : ℕ) → n ≤ length ys → last_of n (xs ++ ys) ≡ last_of n ys
  last_of-late [] ys n l = refl
  last_of-late (x ∷ xs) ys n l = rw (le-ltb (length (xs ++ ys)) n (omega (arith, length-append xs ys))) (last_of-late xs ys n l)

  but_last-late : (xs ys : List X) (n : ℕ) → n ≤ length ys → but_last n (xs ++ ys) ≡ xs ++ but_last n ys
  but_last-late [] ys n l = refl
  but_last-late (x ∷ xs) ys n l = rw (le-ltb (length (xs ++ ys)) n (omega (arith, length-append xs ys))) (ap (λ (zs : List X). x ∷ zs) (but_last-late xs ys n l))

back-same : (sign : Sign) (m : Message) (done done' waiting antis : List Message) → after m done' ≡ after m done → is_among m done' ≡ is_among m done →
    back (record { sign = sign; message = m }) (record { done = done'; waiting = waiting; antis = antis }) ≡ back (record { sign = sign; message = m }) (record { done = done; waiting = waiting; antis = antis })
back-same Plus m done done' waiting antis e f = ap (λ (n : ℕ). if is_among m antis then 0 else n) e
back-same Minus m done done' waiting antis e f = rw (e, f) refl

-- the bags do not depend on the done messages
settle-same : (sign : Sign) (m : Message) (done done' waiting antis : List Message) →
    ((settle (record { sign = sign; message = m }) (record { done = done'; waiting = waiting; antis = antis })).waiting ≡ (settle (record { sign = sign; message = m }) (record { done = done; waiting = waiting; antis = antis })).waiting)
    × ((settle (record { sign = sign; message = m }) (record { done = done'; waiting = waiting; antis = antis })).antis ≡ (settle (record { sign = sign; message = m }) (record { done = done; waiting = waiting; antis = antis })).antis)
settle-same Plus m done done' waiting antis = elim (cases_Bool (is_among m antis)) [ inl e ↦ rw e (refl, refl) | inr e ↦ rw e (refl, refl) ]
settle-same Minus m done done' waiting antis = elim (cases_Bool (is_among m waiting)) [ inl e ↦ rw e (refl, refl) | inr e ↦ rw e (refl, refl) ]

pub releases_are_unseen : ReleasesAreUnseen
releases_are_unseen floor s q up late =
    let gone = handled_before floor q.done in
    let left = handled_from floor q.done in
    let split : gone ++ left ≡ q.done = handled_before-from floor q.done in
    let two : messages gone ++ messages left ≡ messages q.done = sym (map-append (λ (h : Record). h.message) gone left) ∙ ap messages split in
    let early : Every (λ (x : Message). x.time < floor) (messages gone) = before_is_below floor q.done in
    let left_late : Every (IsLate floor) left = Every-unmap (λ (x : Message). floor ≤ x.time) (λ (h : Record). h.message) left (from_is_late floor q.done up) in
    let left_up : IsAscending (messages left) = IsAscending-right (messages gone) (messages left) (subst IsAscending (sym two) up) in
    let n = back s (queue_of q) in
    let k = back s (queue_of (release floor q)) in
    let same : k ≡ n = back-same s.sign s.message (messages q.done) (messages left) q.waiting q.antis
    (sym (after-early floor s.message late (messages gone) (messages left) early) ∙ ap (after s.message) two)
    (sym (among-early floor s.message late (messages gone) (messages left) early) ∙ ap (is_among s.message) two) in
    let fits : n ≤ length left = (let within = (arrivals_count_undone s (queue_of (release floor q)) left_up).1 in let many = length-map left (λ (h : Record). h.message) in omega arith) in
    let undone : last_of k left ≡ last_of n q.done = ap (λ (i : ℕ). last_of i left) same ∙ (sym (last_of-late gone left n fits) ∙ ap (last_of n) split) in
    let kept_late : Every (IsLate floor) (but_last n left) = Every-left (IsLate floor) (but_last n left) (last_of n left) (subst (λ (hs : List Record). Every (IsLate floor) hs) (sym (but_last-last_of n left)) left_late) in
    let parted : handled_from floor (but_last n q.done) ≡ but_last n left =
    ap (λ (hs : List Record). handled_from floor (but_last n hs)) (sym split) ∙ (ap (handled_from floor) (but_last-late gone left n fits)
    ∙ (from-early floor gone (but_last n left) (Every-unmap (λ (x : Message). x.time < floor) (λ (h : Record). h.message) gone early) ∙ from-late floor (but_last n left) kept_late)) in
    let kept : but_last k left ≡ handled_from floor (but_last n q.done) = ap (λ (i : ℕ). but_last i left) same ∙ sym parted in
    let again : last_of k (messages left) ≡ last_of n (messages q.done) = sym (map-last_of (λ (h : Record). h.message) k left) ∙ (ap messages undone ∙ map-last_of (λ (h : Record). h.message) n q.done) in
    let bags = settle-same s.sign s.message (but_last n (messages q.done)) (but_last k (messages left)) (add_all (last_of n (messages q.done)) q.waiting) q.antis in
    let waiting = ap (λ (xs : List Message). (settle s (record { done = but_last k (messages left); waiting = add_all xs q.waiting; antis = q.antis })).waiting) again ∙ bags.0 in
    let antis = ap (λ (xs : List Message). (settle s (record { done = but_last k (messages left); waiting = add_all xs q.waiting; antis = q.antis })).antis) again ∙ bags.1 in (
      λ i. record { done = kept i; waiting = waiting i; antis = antis i; state = state_before (undone i) q.state; number = number_before (undone i) q.number },
      ap (λ (hs : List Record). map minus (sent_in hs)) undone,
    )
