-- The invariants that a handling and a collection keep.
use Rattle.std.proofs.Common.{◌≡◌, List, ◌∷◌, refl, ℕ, ◌+◌, ◌^◌, ◌<◌, ◌≤◌, [], ◌++◌, sym, ap, ◌∙◌, arith, flat_map, length, map, inl, inr, subst}
use Rattle.std.proofs.lemmas.Bool.{cases_Bool, ltb-true, ltb-false}
use Rattle.std.proofs.lemmas.List.{append_assoc, map-append}
use Rattle.std.proofs.lemmas.List.Concat.{flat_map-append}
use Rattle.std.specs.List.{AllByRecursion as Every}
use Rattle.std.specs.Prelude.{nat_lt}
use Rattle.eventkey.proofs.Bags.{at_most_from_before, copies-append, earlier_before, time_from_at_most}
use Rattle.eventkey.proofs.Lists.{Every-append, Every-left, Every-map, Every-right, Every-unmap, Every-weaker, IsAllAtMost, IsAscending-append, IsAscending-right}
use Rattle.eventkey.specs.Bag.{IsAscending, copies, remove_one}
use Rattle.eventkey.specs.Message.{IsAtMost, Message}
use Rattle.model.proofs.Worlds.{length-stamp}
use Rattle.model.specs.Meaning.{Meaning}
use Rattle.queues.proofs.Moves.{remove_first}
use Rattle.queues.specs.Record.{Record, handled_before, handled_from, messages, number_before, sent_in, state_before}
use Rattle.process.proofs.Arrivals.{IsFine}
use Rattle.process.proofs.Histories.{fold_end, fold_front, fold_push, fold_consistent, fold_whole, reported_messages, number_after-append, number_before-append, reported_sends, state_after-append, state_before-append, consistent_fold-append}
use Rattle.process.specs.Process.{Process, fossils_of, handle, handling_of, number_after, release, sent_by, state_after}
use Rattle.process.specs.Consistent.{IsFold, IsHistory, IsConsistentProcess, AreConsistent, held}
use Rattle.process.specs.declared.Done.{Done}

-- 1. One message handled

module _ (m : Meaning) (lp : ℕ) (x : Message) (q : Process) where
  messages_of_handle : messages (handle m lp x q).done ≡ messages q.done ++ x ∷ []
  messages_of_handle = map-append (λ (h : Record). h.message) q.done (handling_of m lp x q ∷ [])

  pub handle_held : (y : Message) (rest : List Message) → q.waiting ≡ x ∷ rest → held y (handle m lp x q) ≡ held y q
  handle_held y rest w =
      let done = ap (copies y) messages_of_handle in
      let left : copies y (remove_one x q.waiting) ≡ copies y rest = rw (w, remove_first) refl in
      let was = ap (copies y) w in
      omega (arith, copies-append y (messages q.done) (x ∷ []))

  pub handle_sent : (y : Message) → copies y (sent_by (handle m lp x q)) ≡ copies y (sent_by q) + copies y (handling_of m lp x q).sent
  handle_sent y =
      let two = ap (copies y) (flat_map-append (λ (h : Record). h.sent) q.done (handling_of m lp x q ∷ [])) in
      omega (arith, copies-append y (sent_in q.done) (sent_in (handling_of m lp x q ∷ [])), copies-append y (handling_of m lp x q).sent [])

  -- the state before the history does not change
  pub state_of_handle : state_before (handle m lp x q).done (handle m lp x q).state ≡ state_before q.done q.state
  state_of_handle = state_before-append q.done (handling_of m lp x q ∷ []) (m.next_state lp q.state x)

  pub number_of_handle : number_before (handle m lp x q).done (handle m lp x q).number ≡ number_before q.done q.number
  number_of_handle = number_before-append q.done (handling_of m lp x q ∷ []) (q.number + length (handling_of m lp x q).sent)

  room_sent : q.number + length (m.sends lp q.state x) ≤ 2 ^ 63 → q.number + length (handling_of m lp x q).sent ≤ 2 ^ 63
  room_sent room = rw (length-stamp lp x.time q.number (m.sends lp q.state x)) room

  pub fold_handle : (state : List ℕ) (number : ℕ) → q.number + length (m.sends lp q.state x) ≤ 2 ^ 63 → IsFold m lp state number q.done q.state q.number →
      IsFold m lp state number (handle m lp x q).done (handle m lp x q).state (handle m lp x q).number
  fold_handle state number room f = fold_push m lp q.done (handling_of m lp x q) state number q.state q.number f refl refl refl (room_sent room)

  pub history_handle : q.number + length (m.sends lp q.state x) ≤ 2 ^ 63 → IsHistory m lp q → IsHistory m lp (handle m lp x q)
  history_handle room f =
      let state = state_before q.done q.state in
      let number = number_before q.done q.number in
      fold_whole m lp (handle m lp x q).done state number (handle m lp x q).state (handle m lp x q).number (fold_handle state number room f)

  pub reported_handle : (time : ℕ) (state : List ℕ) (number floor : ℕ) (reported : List Done) (rest : List Message) → q.waiting ≡ x ∷ rest → q.number + length (m.sends lp q.state x) ≤ 2 ^ 63 →
      IsConsistentProcess m lp time state number floor reported q → IsConsistentProcess m lp time state number floor reported (handle m lp x q)
  reported_handle time state number floor reported rest w room h =
      let gone = map (λ (d : Done). d.message) reported in
      let left : remove_one x q.waiting ≡ rest = rw (w, remove_first) refl in
      let up : IsAscending (x ∷ rest) = rw w at h.waiting_ascending in
      let own : Every (λ (y : Message). y.to ≡ lp) (x ∷ rest) = rw w at h.own_waiting in
      let from : Every (λ (y : Message). floor ≤ y.time) (x ∷ rest) = rw w at h.waiting_from in
      let behind : IsAllAtMost (messages q.done) (x ∷ rest) = rw w at h.behind in
      let before : Every (λ (d : Message). IsAtMost d x) gone =
      Every-map (λ (d : Message). IsAtMost d x) (λ (d : Done). d.message) reported
      (Every-weaker (λ (d : Done). d.message.time < floor) (λ (d : Done). IsAtMost d.message x)
      (λ d t. at_most_from_before d.message x (earlier_before d.message x (let f : floor ≤ x.time = from.0 in omega arith))) reported h.reported_below) in
      let all : Every (λ (d : Message). IsAtMost d x) (gone ++ messages q.done) = Every-append (λ (d : Message). IsAtMost d x) gone (messages q.done) before behind.0 in
      let ends : gone ++ messages (handle m lp x q).done ≡ (gone ++ messages q.done) ++ x ∷ [] =
      ap (λ (xs : List Message). gone ++ xs) messages_of_handle ∙ sym (append_assoc gone (messages q.done) (x ∷ [])) in
      record {
        consistent_fold = h.consistent_fold;
        history = history_handle room h.history;
        state_meets = state_of_handle ∙ h.state_meets;
        number_meets = number_of_handle ∙ h.number_meets;
        number_limit = room_sent room;
        ascending = subst IsAscending (sym ends) (IsAscending-append (gone ++ messages q.done) (x ∷ []) h.ascending (tt, tt) (all, tt));
        waiting_ascending = rw left up.1;
        antis_ascending = h.antis_ascending;
        behind = rw (left, messages_of_handle) (Every-both-behind rest behind.1 up.0);
        own_reported = h.own_reported;
        own_done = rw messages_of_handle (Every-append (λ (y : Message). y.to ≡ lp) (messages q.done) (x ∷ []) h.own_done (own.0, tt));
        own_waiting = rw left own.1;
        own_antis = h.own_antis;
        reported_from = h.reported_from;
        reported_below = h.reported_below;
        done_from = rw messages_of_handle (Every-append (λ (y : Message). floor ≤ y.time) (messages q.done) (x ∷ []) h.done_from (from.0, tt));
        waiting_from = rw left from.1;
        antis_from = h.antis_from;
      }
    where
      Every-both-behind : (ws : List Message) → IsAllAtMost (messages q.done) ws → Every (IsAtMost x) ws → IsAllAtMost (messages q.done ++ x ∷ []) ws
      Every-both-behind [] a b = tt
      Every-both-behind (v ∷ ws) a b = (Every-append (λ (d : Message). IsAtMost d v) (messages q.done) (x ∷ []) a.0 (b.0, tt), Every-both-behind ws a.1 b.1)

module _ (P : Message → Type 0) (m : Meaning) (lp : ℕ) (x : Message) (q : Process) (h : IsFine P q) where
  pub fine_handle : (rest : List Message) → q.waiting ≡ x ∷ rest → Every P (handling_of m lp x q).sent → IsFine P (handle m lp x q)
  fine_handle rest w sends =
      let left : remove_one x q.waiting ≡ rest = rw (w, remove_first) refl in
      let waiting : Every P (x ∷ rest) = rw w at h.waiting in
      let all = flat_map-append (λ (h : Record). h.sent) q.done (handling_of m lp x q ∷ []) in
      record {
        handled = rw (messages_of_handle m lp x q) (Every-append P (messages q.done) (x ∷ []) h.handled (waiting.0, tt));
        waiting = rw left waiting.1;
        antis = h.antis;
        sent = rw all (Every-append P (sent_in q.done) (sent_in (handling_of m lp x q ∷ [])) h.sent (Every-append P (handling_of m lp x q).sent [] sends tt));
      }

-- 2. Reporting

pub handled_before-from : (floor : ℕ) (hs : List Record) → handled_before floor hs ++ handled_from floor hs ≡ hs
handled_before-from floor [] = refl
handled_before-from floor (h ∷ hs) = elim (cases_Bool (nat_lt h.message.time floor)) [
  | inl e ↦ rw e (ap (λ (ks : List Record). h ∷ ks) (handled_before-from floor hs))
  | inr e ↦ rw e refl
]

pub before_is_below : (floor : ℕ) (hs : List Record) → Every (λ (x : Message). x.time < floor) (messages (handled_before floor hs))
before_is_below floor [] = tt
before_is_below floor (h ∷ hs) = elim (cases_Bool (nat_lt h.message.time floor)) [
  | inl e ↦ rw e (ltb-true h.message.time floor e, before_is_below floor hs)
  | inr e ↦ rw e tt
]

pub from_is_late : (floor : ℕ) (hs : List Record) → IsAscending (messages hs) → Every (λ (x : Message). floor ≤ x.time) (messages (handled_from floor hs))
from_is_late floor [] up = tt
from_is_late floor (h ∷ hs) up = elim (cases_Bool (nat_lt h.message.time floor)) [
  | inl e ↦ rw e (from_is_late floor hs up.1)
  | inr e ↦
      let here : floor ≤ h.message.time = ltb-false h.message.time floor e in
      rw e (here, Every-weaker (IsAtMost h.message) (λ (x : Message). floor ≤ x.time) (λ x p. let t = time_from_at_most h.message x p in omega arith) (messages hs) up.0)
]

module _ (m : Meaning) (lp floor : ℕ) (q : Process) (state : List ℕ) (number : ℕ) (f : IsFold m lp state number q.done q.state q.number) where
  fold_parts : IsFold m lp state number (handled_before floor q.done ++ handled_from floor q.done) q.state q.number
  fold_parts = subst (λ (hs : List Record). IsFold m lp state number hs q.state q.number) (sym (handled_before-from floor q.done)) f

  pub fold_release : IsHistory m lp (release floor q)
  fold_release = fold_end m lp (handled_before floor q.done) (handled_from floor q.done) state number q.state q.number fold_parts

  -- the reported handlings end where the rest of the history begins
  pub fold_fossils : AreConsistent m lp state number (fossils_of floor q)
      × (state_after (fossils_of floor q) state ≡ state_before (handled_from floor q.done) q.state)
      × (number_after (fossils_of floor q) number ≡ number_before (handled_from floor q.done) q.number)
  fold_fossils = fold_consistent m lp (handled_before floor q.done) state number (state_before (handled_from floor q.done) q.state) (number_before (handled_from floor q.done) q.number)
      (fold_front m lp (handled_before floor q.done) (handled_from floor q.done) state number q.state q.number fold_parts)

  pub fold_kept : IsFold m lp (state_after (fossils_of floor q) state) (number_after (fossils_of floor q) number) (handled_from floor q.done) q.state q.number
  fold_kept =
      let reports = fold_fossils in
      subst (λ (s : List ℕ). IsFold m lp s (number_after (fossils_of floor q) number) (handled_from floor q.done) q.state q.number) (sym reports.1)
      (subst (λ (n : ℕ). IsFold m lp (state_before (handled_from floor q.done) q.state) n (handled_from floor q.done) q.state q.number) (sym reports.2) fold_release)

module _ (m : Meaning) (lp floor : ℕ) (q : Process) (f : IsHistory m lp q) where
  pub history_release : IsHistory m lp (release floor q)
  history_release = fold_release m lp floor q (state_before q.done q.state) (number_before q.done q.number) f

  pub report_is_fold : AreConsistent m lp (state_before q.done q.state) (number_before q.done q.number) (fossils_of floor q)
      × (state_after (fossils_of floor q) (state_before q.done q.state) ≡ state_before (handled_from floor q.done) q.state)
      × (number_after (fossils_of floor q) (number_before q.done q.number) ≡ number_before (handled_from floor q.done) q.number)
  report_is_fold = fold_fossils m lp floor q (state_before q.done q.state) (number_before q.done q.number) f

pub reported_release : (m : Meaning) (lp time : ℕ) (state : List ℕ) (number floor floor' : ℕ) (reported : List Done) (q : Process) → time ≤ floor → floor ≤ floor' →
    Every (λ (x : Message). floor' ≤ x.time) q.waiting → Every (λ (x : Message). floor' ≤ x.time) q.antis →
    IsConsistentProcess m lp time state number floor reported q → IsConsistentProcess m lp time state number floor' (reported ++ fossils_of floor' q) (release floor' q)
reported_release m lp time state number floor floor' reported q start less waiting antis h =
    let before = handled_before floor' q.done in
    let from = handled_from floor' q.done in
    let fossils = fossils_of floor' q in
    let gone = map (λ (d : Done). d.message) reported in
    let split : messages before ++ messages from ≡ messages q.done = sym (map-append (λ (h : Record). h.message) before from) ∙ ap messages (handled_before-from floor' q.done) in
    let reports = report_is_fold m lp floor' q h.history in
    let goes_on : AreConsistent m lp (state_after reported state) (number_after reported number) fossils =
    subst (λ (s : List ℕ). AreConsistent m lp s (number_after reported number) fossils) h.state_meets (subst (λ (n : ℕ). AreConsistent m lp (state_before q.done q.state) n fossils) h.number_meets reports.0) in
    let reported_is : map (λ (d : Done). d.message) fossils ≡ messages before = reported_messages before (state_before from q.state) (number_before from q.number) in
    let ends : map (λ (d : Done). d.message) (reported ++ fossils) ++ messages from ≡ gone ++ messages q.done =
    ap (λ (xs : List Message). xs ++ messages from) (map-append (λ (d : Done). d.message) reported fossils ∙ ap (λ (xs : List Message). gone ++ xs) reported_is)
    ∙ (append_assoc gone (messages before) (messages from) ∙ ap (λ (xs : List Message). gone ++ xs) split) in
    let late : Every (λ (x : Message). floor ≤ x.time) (messages before ++ messages from) = rw split h.done_from in
    let own : Every (λ (x : Message). x.to ≡ lp) (messages before ++ messages from) = rw split h.own_done in
    let behind : IsAllAtMost (messages before ++ messages from) q.waiting = rw split h.behind in
    let of_reported = λ (P : Message → Type 0) (p : Every P (messages before)). Every-unmap P (λ (d : Done). d.message) fossils (subst (Every P) (sym reported_is) p) in
    record {
      consistent_fold = consistent_fold-append m lp reported fossils state number h.consistent_fold goes_on;
      history = history_release m lp floor' q h.history;
      state_meets = sym reports.1 ∙ (ap (state_after fossils) h.state_meets ∙ sym (state_after-append reported fossils state));
      number_meets = sym reports.2 ∙ (ap (number_after fossils) h.number_meets ∙ sym (number_after-append reported fossils number));
      number_limit = h.number_limit;
      ascending = subst IsAscending (sym ends) h.ascending;
      waiting_ascending = h.waiting_ascending;
      antis_ascending = h.antis_ascending;
      behind = Every-weaker (λ (w : Message). Every (λ (d : Message). IsAtMost d w) (messages before ++ messages from)) (λ (w : Message). Every (λ (d : Message). IsAtMost d w) (messages from))
          (λ w p. Every-right (λ (d : Message). IsAtMost d w) (messages before) (messages from) p) q.waiting behind;
      own_reported = Every-append (λ (d : Done). d.message.to ≡ lp) reported fossils h.own_reported (of_reported (λ (x : Message). x.to ≡ lp) (Every-left (λ (x : Message). x.to ≡ lp) (messages before) (messages from) own));
      own_done = Every-right (λ (x : Message). x.to ≡ lp) (messages before) (messages from) own;
      own_waiting = h.own_waiting;
      own_antis = h.own_antis;
      reported_from = Every-append (λ (d : Done). time ≤ d.message.time) reported fossils h.reported_from
          (of_reported (λ (x : Message). time ≤ x.time) (Every-weaker (λ (x : Message). floor ≤ x.time) (λ (x : Message). time ≤ x.time) (λ x p. omega arith) (messages before)
          (Every-left (λ (x : Message). floor ≤ x.time) (messages before) (messages from) late)));
      reported_below = Every-append (λ (d : Done). d.message.time < floor') reported fossils
          (Every-weaker (λ (d : Done). d.message.time < floor) (λ (d : Done). d.message.time < floor') (λ d p. omega arith) reported h.reported_below)
          (of_reported (λ (x : Message). x.time < floor') (before_is_below floor' q.done));
      done_from = from_is_late floor' q.done (IsAscending-right gone (messages q.done) h.ascending);
      waiting_from = waiting;
      antis_from = antis;
    }

-- the process no longer has what is reported, and its sends are reported with it
pub release_held : (x : Message) (floor : ℕ) (q : Process) → copies x (map (λ (d : Done). d.message) (fossils_of floor q)) + held x (release floor q) ≡ held x q
release_held x floor q =
    let before = handled_before floor q.done in
    let from = handled_from floor q.done in
    let reported_is = ap (copies x) (reported_messages before (state_before from q.state) (number_before from q.number)) in
    let two = ap (copies x) (sym (map-append (λ (h : Record). h.message) before from) ∙ ap messages (handled_before-from floor q.done)) in
    omega (arith, copies-append x (messages before) (messages from))

pub release_sent : (x : Message) (floor : ℕ) (q : Process) → copies x (flat_map (λ (d : Done). d.sent) (fossils_of floor q)) + copies x (sent_by (release floor q)) ≡ copies x (sent_by q)
release_sent x floor q =
    let before = handled_before floor q.done in
    let from = handled_from floor q.done in
    let reported_is = ap (copies x) (reported_sends before (state_before from q.state) (number_before from q.number)) in
    let two = ap (copies x) (sym (flat_map-append (λ (h : Record). h.sent) before from) ∙ ap sent_in (handled_before-from floor q.done)) in
    omega (arith, copies-append x (sent_in before) (sent_in from))
