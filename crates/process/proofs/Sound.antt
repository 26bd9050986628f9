-- The invariants that every call of a process keeps.
use Rattle.std.proofs.Common.{◌≡◌, ℕ, ◌+◌, ◌<◌, ◌≤◌, ◌^◌, ◌++◌, ◌==◌, Bool, List, [], ◌∷◌, Some, true, false, length, refl, ap, sym, ◌∙◌, arith, subst, inl, inr, eqb-true}
use Rattle.std.proofs.lemmas.Bool.{cases_Bool, cond_both, le-leb, lt-leb, ltb-false, ltb-true}
use Rattle.std.proofs.lemmas.List.{map-append}
use Rattle.std.specs.List.{AllByRecursion as Every, filter}
use Rattle.std.specs.Prelude.{nat_le, nat_lt}
use Rattle.eventkey.proofs.Bags.{IsAscending-add_all, time_from_at_most}
use Rattle.eventkey.proofs.Lists.{Every-add_all, Every-append, Every-filter, Every-left, Every-right, Every-weaker}
use Rattle.eventkey.specs.Bag.{IsAscending, remove_one}
use Rattle.eventkey.specs.Message.{IsAtMost, IsRanged, Message}
use Rattle.eventkey.specs.declared.Signed.{Signed}
use Rattle.model.proofs.Worlds.{length-stamp}
use Rattle.model.specs.Meaning.{IsLawful, IsWords, Meaning}
use Rattle.queues.proofs.Arrivals.{IsQueue, arrived_kept}
use Rattle.queues.proofs.Firsts.{first_before_is, released_in_order, taken_in_order, waiting_in_order}
use Rattle.queues.proofs.Moves.{remove_first, same_queue}
use Rattle.queues.proofs.Places.{but_last-last_of}
use Rattle.queues.proofs.Queues.{queues_stay_in_order}
use Rattle.queues.specs.Queue.{IsInOrder, arrived, back, but_last, first_before, last_of, released, taken}
use Rattle.queues.specs.Record.{Record, handled_before, handled_from, messages, number_before, state_before}
use Rattle.process.proofs.Arrivals.{done_of_arrive, fold_arrive}
use Rattle.process.proofs.Histories.{fold_whole}
use Rattle.process.proofs.HandlingLaws.{fold_fossils, fold_handle, fold_kept, handled_before-from}
use Rattle.process.specs.Process.{Process, arrive, fossils_of, handle, handling_of, number_after, queue_of, release, state_after, reported}
use Rattle.process.specs.Consistent.{IsHistory, AreConsistent}
use Rattle.process.specs.View.{HasDone, IsDoneInRange, IsProcessKept, IsSound, ProcessView, has_foreign, loaded}

-- 1. Loading

pub own_from : (lp : ℕ) (xs : List Message) → has_foreign lp xs ≡ false → Every (λ (x : Message). x.to ≡ lp) xs
own_from lp [] e = tt
own_from lp (x ∷ xs) e = elim (cases_Bool (x.to == lp)) [
  | inl f ↦ (eqb-true x.to lp f, own_from lp xs (rw f at e))
  | inr f ↦ absurd (let now = rw f at e in cc)
]

pub loaded_sound : (lp floor number : ℕ) (spent : Bool) (state : List ℕ) (pending : List Message) → length state ≤ 16 → number ≤ 2 ^ 63 → has_foreign lp pending ≡ false →
    IsSound (record { lp = lp; floor = floor; spent = spent; process = loaded state number pending })
loaded_sound lp floor number spent state pending few fits own = record {
  in_order = waiting_in_order (queue_of (loaded state number pending)) refl (IsAscending-add_all pending [] tt) refl;
  own_done = tt;
  own_waiting = Every-add_all (λ (x : Message). x.to ≡ lp) pending [] (own_from lp pending own) tt;
  own_antis = tt;
  few = few;
  few_before = tt;
  number = fits;
  number_before = tt;
  few_sent = tt;
}

-- 2. Arrivals

pub queue_of_arrive : (s : Signed) (q : Process) → queue_of (arrive s q) ≡ arrived s (queue_of q)
queue_of_arrive s q = same_queue _ _ (done_of_arrive s q) refl refl

before_all : (P : List ℕ → Type 0) (hs : List Record) (state : List ℕ) → Every (λ (h : Record). P h.before) hs → P state → P (state_before hs state)
before_all P [] state h k = k
before_all P (r ∷ rs) state h k = h.0

number_all : (P : ℕ → Type 0) (hs : List Record) (number : ℕ) → Every (λ (h : Record). P h.number_before) hs → P number → P (number_before hs number)
number_all P [] number h k = k
number_all P (r ∷ rs) number h k = h.0

pub arrived_sound : (s : Signed) (spent : Bool) (v : ProcessView) → s.message.to ≡ v.lp → IsSound v → IsSound (record { lp = v.lp; floor = v.floor; spent = spent; process = arrive s v.process })
arrived_sound s spent v own h =
    let q = v.process in
    let n = back s (queue_of q) in
    let is = queue_of_arrive s q in
    let k : IsQueue (λ (x : Message). x.to ≡ v.lp) (arrived s (queue_of q)) = arrived_kept (λ (x : Message). x.to ≡ v.lp) s (queue_of q) own (record {
      done_up = h.in_order.done;
      waiting_up = h.in_order.waiting;
      antis_up = h.in_order.antis;
      behind = h.in_order.behind;
      done_fits = h.own_done;
      waiting_fits = h.own_waiting;
      antis_fits = h.own_antis;
    }) in
    let split = but_last-last_of n q.done in
    let few : Every (λ (r : Record). length r.before ≤ 16) (but_last n q.done ++ last_of n q.done) = rw split h.few_before in
    let fits : Every (λ (r : Record). r.number_before ≤ 2 ^ 63) (but_last n q.done ++ last_of n q.done) = rw split h.number_before in
    let sent : Every (λ (r : Record). length r.sent ≤ 8) (but_last n q.done ++ last_of n q.done) = rw split h.few_sent in
    record {
      in_order = subst IsInOrder (sym is) (queues_stay_in_order s (queue_of q) h.in_order);
      own_done = subst (Every (λ (x : Message). x.to ≡ v.lp)) (sym (done_of_arrive s q)) k.done_fits;
      own_waiting = k.waiting_fits;
      own_antis = k.antis_fits;
      few = before_all (λ (u : List ℕ). length u ≤ 16) (last_of n q.done) q.state (Every-right (λ (r : Record). length r.before ≤ 16) (but_last n q.done) (last_of n q.done) few) h.few;
      few_before = Every-left (λ (r : Record). length r.before ≤ 16) (but_last n q.done) (last_of n q.done) few;
      number = number_all (λ (u : ℕ). u ≤ 2 ^ 63) (last_of n q.done) q.number (Every-right (λ (r : Record). r.number_before ≤ 2 ^ 63) (but_last n q.done) (last_of n q.done) fits) h.number;
      number_before = Every-left (λ (r : Record). r.number_before ≤ 2 ^ 63) (but_last n q.done) (last_of n q.done) fits;
      few_sent = Every-left (λ (r : Record). length r.sent ≤ 8) (but_last n q.done) (last_of n q.done) sent;
    }

-- 3. Handlings

pub queue_of_handle : (m : Meaning) (lp end : ℕ) (x : Message) (q : Process) → first_before end q.waiting ≡ Some x → queue_of (handle m lp x q) ≡ taken end (queue_of q)
queue_of_handle m lp end x q e = rw (e, taken) (same_queue _ _ (map-append (λ (h : Record). h.message) q.done (handling_of m lp x q ∷ [])) refl refl)

pub handled_sound : (m : Meaning) (end : ℕ) (x : Message) (spent : Bool) (v : ProcessView) → IsLawful m → v.lp < m.lps → IsWords v.process.state → IsRanged x → first_before end v.process.waiting ≡ Some x →
    v.process.number + length (m.sends v.lp v.process.state x) ≤ 2 ^ 63 → IsSound v → IsSound (record { lp = v.lp; floor = v.floor; spent = spent; process = handle m v.lp x v.process })
handled_sound m end x spent v law here words ranged e room h =
    let q = v.process in
    let f = first_before_is end q.waiting x e in
    let rest : List Message = f.0 in
    let left : remove_one x q.waiting ≡ rest = ap (remove_one x) f.1 ∙ remove_first x rest in
    let own : Every (λ (y : Message). y.to ≡ v.lp) (x ∷ rest) = subst (Every (λ (y : Message). y.to ≡ v.lp)) f.1 h.own_waiting in
    let long = length-stamp v.lp x.time q.number (m.sends v.lp q.state x) in
    let r : Record = handling_of m v.lp x q in
    record {
      in_order = subst IsInOrder (sym (queue_of_handle m v.lp end x q e)) (taken_in_order end (queue_of q) x e h.in_order);
      own_done = rw (map-append (λ (h : Record). h.message) q.done (r ∷ [])) (Every-append (λ (y : Message). y.to ≡ v.lp) (messages q.done) (x ∷ []) h.own_done (own.0, tt));
      own_waiting = subst (Every (λ (y : Message). y.to ≡ v.lp)) (sym left) own.1;
      own_antis = h.own_antis;
      few = (law.words v.lp q.state x here words ranged).0;
      few_before = Every-append (λ (g : Record). length g.before ≤ 16) q.done (r ∷ []) h.few_before (h.few, tt);
      number = rw long room;
      number_before = Every-append (λ (g : Record). g.number_before ≤ 2 ^ 63) q.done (r ∷ []) h.number_before (h.number, tt);
      few_sent = Every-append (λ (g : Record). length g.sent ≤ 8) q.done (r ∷ []) h.few_sent (rw long (law.few v.lp q.state x here words ranged), tt);
    }

-- 4. Collections

from_is_filtered : (floor : ℕ) (hs : List Record) → IsAscending (messages hs) → messages (handled_from floor hs) ≡ filter (λ (x : Message). nat_le floor x.time) (messages hs)
from_is_filtered floor [] up = refl
from_is_filtered floor (h ∷ hs) up = elim (cases_Bool (nat_lt h.message.time floor)) [
  | inl e ↦
      let early = ltb-true h.message.time floor e in
      let fails : nat_le floor h.message.time ≡ false = lt-leb floor h.message.time early in
      rw (e, fails) (from_is_filtered floor hs up.1)
  | inr e ↦
      let late = ltb-false h.message.time floor e in
      let passes : nat_le floor h.message.time ≡ true = le-leb floor h.message.time late in
      rw (e, passes) (ap (λ (ys : List Message). h.message ∷ ys) (sym (all_pass floor (messages hs) (Every-weaker (IsAtMost h.message) (λ (x : Message). floor ≤ x.time) (λ x p. omega (arith, time_from_at_most h.message x p)) (messages hs) up.0))))
]
  where
    all_pass : (floor : ℕ) (xs : List Message) → Every (λ (x : Message). floor ≤ x.time) xs → filter (λ (x : Message). nat_le floor x.time) xs ≡ xs
    all_pass floor [] h = refl
    all_pass floor (x ∷ xs) h = rw (le-leb floor x.time h.0) (ap (λ (ys : List Message). x ∷ ys) (all_pass floor xs h.1))

pub queue_of_release : (floor : ℕ) (q : Process) → IsAscending (messages q.done) → queue_of (release floor q) ≡ released floor (queue_of q)
queue_of_release floor q up = same_queue _ _ (from_is_filtered floor q.done up) refl refl

Every-from : (P : Record → Type 0) (floor : ℕ) (hs : List Record) → Every P hs → Every P (handled_from floor hs)
Every-from P floor [] h = tt
Every-from P floor (r ∷ rs) h = cond_both (nat_lt r.message.time floor) (handled_from floor rs) (r ∷ rs) (Every P) (λ _. Every-from P floor rs h.1) (λ _. h)

pub released_sound : (floor : ℕ) (spent : Bool) (v : ProcessView) → IsSound v → IsSound (record { lp = v.lp; floor = floor; spent = spent; process = release floor v.process })
released_sound floor spent v h =
    let q = v.process in
    record {
      in_order = subst IsInOrder (sym (queue_of_release floor q h.in_order.done)) (released_in_order floor (queue_of q) h.in_order);
      own_done = subst (Every (λ (x : Message). x.to ≡ v.lp)) (sym (from_is_filtered floor q.done h.in_order.done)) (Every-filter (λ (x : Message). x.to ≡ v.lp) (λ (x : Message). nat_le floor x.time) (messages q.done) h.own_done);
      own_waiting = h.own_waiting;
      own_antis = h.own_antis;
      few = h.few;
      few_before = Every-from (λ (r : Record). length r.before ≤ 16) floor q.done h.few_before;
      number = h.number;
      number_before = Every-from (λ (r : Record). r.number_before ≤ 2 ^ 63) floor q.done h.number_before;
      few_sent = Every-from (λ (r : Record). length r.sent ≤ 8) floor q.done h.few_sent;
    }

-- 5. Reports

reported_in_range : (hs : List Record) (state : List ℕ) (number : ℕ) → length state ≤ 16 → number ≤ 2 ^ 63 →
    Every (λ (r : Record). length r.before ≤ 16) hs → Every (λ (r : Record). r.number_before ≤ 2 ^ 63) hs → Every (λ (r : Record). length r.sent ≤ 8) hs → Every IsDoneInRange (reported hs state number)
reported_in_range [] state number few fits b n s = tt
reported_in_range (r ∷ rs) state number few fits b n s = (
  record { after = before_all (λ (u : List ℕ). length u ≤ 16) rs state b.1 few; number_after = number_all (λ (u : ℕ). u ≤ 2 ^ 63) rs number n.1 fits; sent = s.0 },
  reported_in_range rs state number few fits b.1 n.1 s.1,
)

pub fossils_in_range : (floor : ℕ) (v : ProcessView) → IsSound v → Every IsDoneInRange (fossils_of floor v.process)
fossils_in_range floor v h =
    let q = v.process in
    let before = handled_before floor q.done in
    let from = handled_from floor q.done in
    let split : before ++ from ≡ q.done = handled_before-from floor q.done in
    let words : Every (λ (r : Record). length r.before ≤ 16) (before ++ from) = rw split h.few_before in
    let numbers : Every (λ (r : Record). r.number_before ≤ 2 ^ 63) (before ++ from) = rw split h.number_before in
    let sent : Every (λ (r : Record). length r.sent ≤ 8) (before ++ from) = rw split h.few_sent in
    reported_in_range before (state_before from q.state) (number_before from q.number)
    (before_all (λ (u : List ℕ). length u ≤ 16) from q.state (Every-right (λ (r : Record). length r.before ≤ 16) before from words) h.few)
    (number_all (λ (u : ℕ). u ≤ 2 ^ 63) from q.number (Every-right (λ (r : Record). r.number_before ≤ 2 ^ 63) before from numbers) h.number)
    (Every-left (λ (r : Record). length r.before ≤ 16) before from words)
    (Every-left (λ (r : Record). r.number_before ≤ 2 ^ 63) before from numbers)
    (Every-left (λ (r : Record). length r.sent ≤ 8) before from sent)

-- 6. The handlings are what the model does

pub done_arrived : (m : Meaning) (s : Signed) (v : ProcessView) (state : List ℕ) (number : ℕ) → HasDone m v state number → HasDone m (record v { process = arrive s v.process }) state number
done_arrived m s v state number f = fold_arrive m v.lp s v.process state number f

pub done_ran : (m : Meaning) (x : Message) (old new : ProcessView) → new ≡ record old { process = handle m old.lp x old.process } → new.process.number ≤ 2 ^ 63 → (state : List ℕ) (number : ℕ) → HasDone m old state number → HasDone m new state number
done_ran m x old new is limit state number f =
    let long = length-stamp old.lp x.time old.process.number (m.sends old.lp old.process.state x) in
    let up = ap (λ (w : ProcessView). w.process.number) is in
    subst (λ (w : ProcessView). HasDone m w state number) (sym is) (fold_handle m old.lp x old.process state number (omega arith) f)

pub done_collected : (m : Meaning) (floor : ℕ) (v : ProcessView) (state : List ℕ) (number : ℕ) → HasDone m v state number →
    AreConsistent m v.lp state number (fossils_of floor v.process)
    × HasDone m (record v { floor = floor; process = release floor v.process }) (state_after (fossils_of floor v.process) state) (number_after (fossils_of floor v.process) number)
done_collected m floor v state number f = ((fold_fossils m v.lp floor v.process state number f).0, fold_kept m v.lp floor v.process state number f)

-- 7. The history

pub has_history : (m : Meaning) (v : ProcessView) (state : List ℕ) (number : ℕ) → HasDone m v state number → IsHistory m v.lp v.process
has_history m v state number done = fold_whole m v.lp v.process.done state number v.process.state v.process.number done

pub kept_unspent : (m : Meaning) (old new : ProcessView) → old.spent ≡ false → new.lp ≡ old.lp → (IsHistory m old.lp old.process → IsHistory m new.lp new.process) → IsProcessKept m old new
kept_unspent m old new unspent lp goes_on = record { lp = lp; history = λ before _. goes_on (before unspent) }
