-- The invariants that an arrival keeps, and where the messages of a process go.
use Rattle.std.proofs.Common.{◌≡◌, ℕ, ◌+◌, ◌++◌, [], ◌∷◌, arith, ap, ◌^◌, ◌≤◌, List, ◌∙◌, length, ◌<◌, sym, subst, map}
use Rattle.std.proofs.lemmas.List.{map-append, append_assoc}
use Rattle.std.proofs.lemmas.List.Concat.{flat_map-append}
use Rattle.std.specs.List.{AllByRecursion as Every}
use Rattle.eventkey.proofs.Bags.{copies-append, time_from_at_most}
use Rattle.eventkey.proofs.Lists.{Every-both, Every-flat_map, Every-map, Every-right, Every-unmap, Every-weaker, IsAscending-left, IsAscending-right, minus_of_minus, plus_of_minus}
use Rattle.eventkey.specs.Bag.{IsAscending, copies}
use Rattle.eventkey.specs.Message.{IsAtMost, IsRanged, Message}
use Rattle.eventkey.specs.Signed.{minus, of_sign}
use Rattle.eventkey.specs.declared.Sign.TheVariants.{Minus, Plus}
use Rattle.eventkey.specs.declared.Signed.{Signed}
use Rattle.model.specs.Meaning.{IsLawful, IsSend, IsWords, Meaning, stamp}
use Rattle.model.specs.declared.Outgoing.{Outgoing}
use Rattle.queues.proofs.Arrivals.{IsQueue, arrived_copies, arrived_kept, settle_done, undone_from}
use Rattle.queues.proofs.Places.{but_last-last_of, map-but_last, map-last_of}
use Rattle.queues.specs.Record.{Record, messages, number_before, sent_in, state_before}
use Rattle.queues.specs.Queue.{arrived, back, but_last, last_of, wait_again}
use Rattle.process.proofs.Histories.{fold_front, fold_numbers, fold_whole, number_before-append, state_before-append}
use Rattle.process.specs.Process.{Process, arrive, queue_of, sent_by, cancelled_sends}
use Rattle.process.specs.Consistent.{IsFold, IsHistory, IsConsistentProcess, held}
use Rattle.process.specs.declared.Done.{Done}

-- 1. The handlings

-- the sends of a handling are later than it, and for processes that exist
abbrev pub IsLater : ℕ → ℕ → Message → Type 0
IsLater lps time x = (time < x.time) × (x.to < lps)

abbrev pub SendsLater : ℕ → Record → Type 0
SendsLater lps h = Every (IsLater lps h.message.time) h.sent

pub stamp_later : (lps lp time number : ℕ) (os : List Outgoing) → Every (IsSend lps) os → Every (IsLater lps time) (stamp lp time number os)
stamp_later lps lp time number [] h = tt
stamp_later lps lp time number (o ∷ os) h = (let d : 1 ≤ o.delay = h.0.delay in (omega arith, h.0.to), stamp_later lps lp time (number + 1) os h.1)

module _ (m : Meaning) (lp : ℕ) (law : IsLawful m) (here : lp < m.lps) where
  -- each handling sends to later times, and the state after the last one is a list of words
  pub fold_kept : (hs : List Record) (state : List ℕ) (number : ℕ) (state' : List ℕ) (number' : ℕ) → IsWords state → Every IsRanged (messages hs) →
      IsFold m lp state number hs state' number' → Every (SendsLater m.lps) hs × IsWords state'
  fold_kept [] state number state' number' words ranged f = (tt, rw f.0 words)
  fold_kept (h ∷ hs) state number state' number' words ranged f =
      let rest = fold_kept hs (m.next_state lp state h.message) (number + length h.sent) state' number' (law.words lp state h.message here words ranged.0) ranged.1 f.4 in
      ((rw f.2 (stamp_later m.lps lp h.message.time number (m.sends lp state h.message) (law.each lp state h.message here words ranged.0)), rest.0), rest.1)

-- 2. The process

abbrev pub Fits : ℕ → ℕ → Message → Type 0
Fits floor lp x = (x.to ≡ lp) × (floor ≤ x.time)

pub queue_from_reported : (m : Meaning) (lp time : ℕ) (state : List ℕ) (number floor : ℕ) (reported : List Done) (q : Process) → IsConsistentProcess m lp time state number floor reported q → IsQueue (Fits floor lp) (queue_of q)
queue_from_reported m lp time state number floor reported q h =
    let both = λ (xs : List Message) (own : Every (λ (x : Message). x.to ≡ lp) xs) (late : Every (λ (x : Message). floor ≤ x.time) xs).
    Every-both (λ (x : Message). x.to ≡ lp) (λ (x : Message). floor ≤ x.time) (Fits floor lp) (λ x p t. (p, t)) xs own late in
    record {
      done_up = IsAscending-right (map (λ (d : Done). d.message) reported) (messages q.done) h.ascending;
      waiting_up = h.waiting_ascending;
      antis_up = h.antis_ascending;
      behind = h.behind;
      done_fits = both (messages q.done) h.own_done h.done_from;
      waiting_fits = both q.waiting h.own_waiting h.waiting_from;
      antis_fits = both q.antis h.own_antis h.antis_from;
    }

owned : (floor lp : ℕ) (xs : List Message) → Every (Fits floor lp) xs → Every (λ (x : Message). x.to ≡ lp) xs
owned floor lp xs = Every-weaker (Fits floor lp) (λ (x : Message). x.to ≡ lp) (λ x p. p.0) xs

in_time : (floor lp : ℕ) (xs : List Message) → Every (Fits floor lp) xs → Every (λ (x : Message). floor ≤ x.time) xs
in_time floor lp xs = Every-weaker (Fits floor lp) (λ (x : Message). floor ≤ x.time) (λ x p. p.1) xs

pub done_of_arrive : (s : Signed) (q : Process) → messages (but_last (back s (queue_of q)) q.done) ≡ (arrived s (queue_of q)).done
done_of_arrive s q = map-but_last (λ (h : Record). h.message) (back s (queue_of q)) q.done ∙ sym (settle_done s.sign s.message (wait_again (back s (queue_of q)) (queue_of q)))

-- the state before the history does not change
module _ (s : Signed) (q : Process) where
  pub state_of_arrive : state_before (arrive s q).done (arrive s q).state ≡ state_before q.done q.state
  state_of_arrive =
      let n = back s (queue_of q) in
      sym (state_before-append (but_last n q.done) (last_of n q.done) q.state) ∙ ap (λ (hs : List Record). state_before hs q.state) (but_last-last_of n q.done)

  pub number_of_arrive : number_before (arrive s q).done (arrive s q).number ≡ number_before q.done q.number
  number_of_arrive =
      let n = back s (queue_of q) in
      sym (number_before-append (but_last n q.done) (last_of n q.done) q.number) ∙ ap (λ (hs : List Record). number_before hs q.number) (but_last-last_of n q.done)

pub fold_arrive : (m : Meaning) (lp : ℕ) (s : Signed) (q : Process) (state : List ℕ) (number : ℕ) → IsFold m lp state number q.done q.state q.number →
    IsFold m lp state number (arrive s q).done (arrive s q).state (arrive s q).number
fold_arrive m lp s q state number f =
    let n = back s (queue_of q) in
    fold_front m lp (but_last n q.done) (last_of n q.done) state number q.state q.number (subst (λ (hs : List Record). IsFold m lp state number hs q.state q.number) (sym (but_last-last_of n q.done)) f)

pub history_arrive : (m : Meaning) (lp : ℕ) (s : Signed) (q : Process) → IsHistory m lp q → IsHistory m lp (arrive s q)
history_arrive m lp s q f =
    let state = state_before q.done q.state in
    let number = number_before q.done q.number in
    fold_whole m lp (arrive s q).done state number (arrive s q).state (arrive s q).number (fold_arrive m lp s q state number f)

number_within : (hs : List Record) (number : ℕ) → Every (λ (h : Record). h.number_before ≤ 2 ^ 63) hs → number ≤ 2 ^ 63 → number_before hs number ≤ 2 ^ 63
number_within [] number h l = l
number_within (r ∷ rs) number h l = h.0

pub reported_arrive : (m : Meaning) (lp time : ℕ) (state : List ℕ) (number floor : ℕ) (reported : List Done) (s : Signed) (q : Process) → s.message.to ≡ lp → floor ≤ s.message.time →
    IsConsistentProcess m lp time state number floor reported q → IsConsistentProcess m lp time state number floor reported (arrive s q)
reported_arrive m lp time state number floor reported s q own late h =
    let n = back s (queue_of q) in
    let kept = but_last n q.done in
    let undone = last_of n q.done in
    let gone = map (λ (d : Done). d.message) reported in
    let k = arrived_kept (Fits floor lp) s (queue_of q) (own, late) (queue_from_reported m lp time state number floor reported q h) in
    let done = done_of_arrive s q in
    let split : messages kept ++ messages undone ≡ messages q.done = sym (map-append (λ (h : Record). h.message) kept undone) ∙ ap messages (but_last-last_of n q.done) in
    let up : IsAscending ((gone ++ messages kept) ++ messages undone) =
    subst IsAscending (sym (append_assoc gone (messages kept) (messages undone) ∙ ap (λ (xs : List Message). gone ++ xs) split)) h.ascending in
    let numbers : Every (λ (h : Record). h.number_before ≤ 2 ^ 63) (kept ++ undone) =
    subst (Every (λ (h : Record). h.number_before ≤ 2 ^ 63)) (sym (but_last-last_of n q.done)) (fold_numbers m lp q.done (state_before q.done q.state) (number_before q.done q.number) q.state q.number h.history) in
    record {
      consistent_fold = h.consistent_fold;
      history = history_arrive m lp s q h.history;
      state_meets = state_of_arrive s q ∙ h.state_meets;
      number_meets = number_of_arrive s q ∙ h.number_meets;
      number_limit = number_within undone q.number (Every-right (λ (h : Record). h.number_before ≤ 2 ^ 63) kept undone numbers) h.number_limit;
      ascending = IsAscending-left (gone ++ messages kept) (messages undone) up;
      waiting_ascending = k.waiting_up;
      antis_ascending = k.antis_up;
      behind = rw done k.behind;
      own_reported = h.own_reported;
      own_done = rw done (owned floor lp (arrived s (queue_of q)).done k.done_fits);
      own_waiting = owned floor lp (arrived s (queue_of q)).waiting k.waiting_fits;
      own_antis = owned floor lp (arrived s (queue_of q)).antis k.antis_fits;
      reported_from = h.reported_from;
      reported_below = h.reported_below;
      done_from = rw done (in_time floor lp (arrived s (queue_of q)).done k.done_fits);
      waiting_from = in_time floor lp (arrived s (queue_of q)).waiting k.waiting_fits;
      antis_from = in_time floor lp (arrived s (queue_of q)).antis k.antis_fits;
    }

pub arrive_held : (x : Message) (s : Signed) (q : Process) →
    held x (arrive s q) + copies x q.antis + copies x (of_sign Minus (s ∷ [])) ≡ held x q + copies x (arrive s q).antis + copies x (of_sign Plus (s ∷ []))
arrive_held x s q = let done = ap (copies x) (done_of_arrive s q) in omega (arith, arrived_copies x s (queue_of q))

pub arrive_sent : (x : Message) (s : Signed) (q : Process) → copies x (sent_by (arrive s q)) + copies x (of_sign Minus (cancelled_sends s q)) ≡ copies x (sent_by q)
arrive_sent x s q =
    let n = back s (queue_of q) in
    let out = ap (copies x) (minus_of_minus (sent_in (last_of n q.done))) in
    let all = ap (λ (hs : List Record). copies x (sent_in hs)) (but_last-last_of n q.done) in
    let two = ap (copies x) (flat_map-append (λ (h : Record). h.sent) (but_last n q.done) (last_of n q.done)) in
    omega (arith, copies-append x (sent_in (but_last n q.done)) (sent_in (last_of n q.done)))

pub arrive_none : (x : Message) (s : Signed) (q : Process) → copies x (of_sign Plus (cancelled_sends s q)) ≡ 0
arrive_none x s q = ap (copies x) (plus_of_minus (sent_in (last_of (back s (queue_of q)) q.done)))

-- the antimessages that an arrival sends are for processes that exist, and not before what arrived
pub cancelled_later : (m : Meaning) (lp : ℕ) (s : Signed) (q : Process) → IsLawful m → lp < m.lps → IsHistory m lp q → IsWords (state_before q.done q.state) → Every IsRanged (messages q.done) → IsAscending (messages q.done) →
    Every (λ (t : Signed). (s.message.time ≤ t.message.time) × (t.message.to < m.lps)) (cancelled_sends s q)
cancelled_later m lp s q law here h words ranged up =
    let n = back s (queue_of q) in
    let later = (fold_kept m lp law here q.done (state_before q.done q.state) (number_before q.done q.number) q.state q.number words ranged h).0 in
    let later' : Every (SendsLater m.lps) (but_last n q.done ++ last_of n q.done) = rw (but_last-last_of n q.done) later in
    let undone : Every (IsAtMost s.message) (messages (last_of n q.done)) = rw map-last_of (undone_from s (queue_of q) up) in
    Every-map (λ (t : Signed). (s.message.time ≤ t.message.time) × (t.message.to < m.lps)) minus (sent_in (last_of n q.done))
    (Every-flat_map (λ (x : Message). (s.message.time ≤ x.time) × (x.to < m.lps)) (λ (h : Record). h.sent) (last_of n q.done)
    (Every-both (SendsLater m.lps) (λ (h : Record). IsAtMost s.message h.message) (λ (h : Record). Every (λ (x : Message). (s.message.time ≤ x.time) × (x.to < m.lps)) h.sent)
    (λ h a b. Every-weaker (IsLater m.lps h.message.time) (λ (x : Message). (s.message.time ≤ x.time) × (x.to < m.lps))
    (λ x p. (let t = time_from_at_most s.message h.message b in omega arith, p.1)) h.sent a)
    (last_of n q.done)
    (Every-right (SendsLater m.lps) (but_last n q.done) (last_of n q.done) later')
    (Every-unmap (IsAtMost s.message) (λ (h : Record). h.message) (last_of n q.done) undone)))

-- P holds of every message that a process has, or sent
pub record IsFine (P : Message → Type 0) (q : Process) : Type 0 where
  pub handled : Every P (messages q.done)
  pub waiting : Every P q.waiting
  pub antis : Every P q.antis
  pub sent : Every P (sent_by q)
