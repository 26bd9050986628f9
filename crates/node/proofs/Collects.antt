-- A node releases the handlings below the floor, at the processes that have some.
use Rattle.std.proofs.Common.{◌≡◌, ℕ, zero, suc, ◌+◌, ◌<◌, ◌≤◌, Bool, true, false, List, [], ◌∷◌, ◌++◌, length, get_or, map, set, append_assoc, refl, sym, inl, inr, subst, ◌∙◌, ap, arith, Option}
use Rattle.std.specs.Prelude.{flat_map, nat_lt}
use Rattle.std.proofs.lemmas.Bool.{cases_eq, cases_lt, cond-false, cond_both}
use Rattle.std.proofs.lemmas.List.{append-nil, get_or-map, get_or-set_other, get_or-set_same, length-map, map-set}
use Rattle.eventkey.proofs.Lists.{Every-get_or}
use Rattle.eventkey.specs.Message.{Message}
use Rattle.process.specs.Process.{Process, fossils_of, nobody, release, reported}
use Rattle.process.specs.View.{ProcessView}
use Rattle.process.specs.declared.Done.{Done}
use Rattle.queues.specs.Record.{Record, first_handled, handled_before, handled_from, number_before, state_before}
use Rattle.node.proofs.Owns.{release_done}
use Rattle.node.proofs.Seats.{length-summaries, staffed_again}
use Rattle.node.proofs.Deliveries.{node_at, working}
use Rattle.node.specs.Blocks.{IsQuietFrom, with_oldest}
use Rattle.node.specs.Handling.{after}
use Rattle.node.specs.Roster.{IsSeated, IsStaffed, Place, at_floor, processes_of}
use Rattle.node.specs.Seats.{is_due, represented_of, standings_of}
use Rattle.node.specs.Tournament.{absent}
use Rattle.node.specs.declared.summary.Summary.{Summary}

-- none of the first `to` summaries is due
abbrev pub IsQuiet : ℕ → List Summary → ℕ → Type 0
IsQuiet floor xs to = (k : ℕ) → k < to → is_due floor (get_or xs k absent).oldest ≡ false

-- the first summary that is due
pub record IsFirstDue (floor : ℕ) (xs : List Summary) (at : ℕ) : Type 0 where
  pub inside : at < length xs
  pub due : is_due floor (get_or xs at absent).oldest ≡ true
  pub first : IsQuiet floor xs at

-- 1. A process with nothing below the floor

none_before : (floor : ℕ) (hs : List Record) → is_due floor (first_handled hs) ≡ false → handled_before floor hs ≡ []
none_before floor [] e = refl
none_before floor (h ∷ hs) e = cond-false (nat_lt h.message.time floor) (h ∷ handled_before floor hs) [] e

all_from : (floor : ℕ) (hs : List Record) → is_due floor (first_handled hs) ≡ false → handled_from floor hs ≡ hs
all_from floor [] e = refl
all_from floor (h ∷ hs) e = cond-false (nat_lt h.message.time floor) (handled_from floor hs) (h ∷ hs) e

abbrev with_done : Process → List Record → Process
with_done q hs = record { done = hs; waiting = q.waiting; antis = q.antis; state = q.state; number = q.number }

release_same : (floor : ℕ) (q : Process) → is_due floor (first_handled q.done) ≡ false → release floor q ≡ q
release_same floor q e = ap (λ (hs : List Record). with_done q hs) (all_from floor q.done e)

fossils_none : (floor : ℕ) (q : Process) → is_due floor (first_handled q.done) ≡ false → fossils_of floor q ≡ []
fossils_none floor q e =
    ap (λ (hs : List Record). reported hs (state_before (handled_from floor q.done) q.state) (number_before (handled_from floor q.done) q.number)) (none_before floor q.done e)

rests : (floor : ℕ) (hs : List Record) → is_due floor (first_handled (handled_from floor hs)) ≡ false
rests floor [] = refl
rests floor (h ∷ hs) = cond_both (nat_lt h.message.time floor) (handled_from floor hs) (h ∷ hs) (λ (rs : List Record). is_due floor (first_handled rs) ≡ false) (λ _. rests floor hs) (λ e. e)

-- 2. The processes of a node that have handlings below the floor release them, one after another.

module _ (floor : ℕ) where
  abbrev IsDueAt : List Process → ℕ → Bool → Type 0
  IsDueAt qs k due = is_due floor (first_handled (get_or qs k nobody).done) ≡ due

  abbrev pub with_released : List Process → ℕ → List Process
  with_released qs i = set qs i (release floor (get_or qs i nobody))

  same_released : (qs : List Process) (i : ℕ) → map (λ (q : Process). release floor q) (with_released qs i) ≡ map (λ (q : Process). release floor q) qs
  same_released [] i = refl
  same_released (q ∷ qs) zero = ap (λ (x : Process). x ∷ map (λ (q : Process). release floor q) qs) (release_same floor (release floor q) (rests floor q.done))
  same_released (q ∷ qs) (suc i) = ap (λ (xs : List Process). release floor q ∷ xs) (same_released qs i)

  -- the report of the first process that has some comes first
  reported_first : (qs : List Process) (i : ℕ) → i < length qs → ((k : ℕ) → k < i → IsDueAt qs k false) →
      fossils_of floor (get_or qs i nobody) ++ flat_map (λ (q : Process). fossils_of floor q) (with_released qs i) ≡ flat_map (λ (q : Process). fossils_of floor q) qs
  reported_first [] i l rest = absurd (omega arith)
  reported_first (q ∷ qs) zero l rest = ap (λ (ds : List Done). fossils_of floor q ++ (ds ++ flat_map (λ (q : Process). fossils_of floor q) qs)) (fossils_none floor (release floor q) (rests floor q.done))
  reported_first (q ∷ qs) (suc i) l rest =
      let none = fossils_none floor q (rest zero (omega arith)) in
      ap (λ (ds : List Done). fossils_of floor (get_or qs i nobody) ++ (ds ++ flat_map (λ (q : Process). fossils_of floor q) (with_released qs i))) none
      ∙ reported_first qs i (omega arith) (λ k m. rest (suc k) (omega arith))
      ∙ ap (λ (ds : List Done). ds ++ flat_map (λ (q : Process). fossils_of floor q) qs) (sym none)

  none_left : (qs : List Process) → ((k : ℕ) → k < length qs → IsDueAt qs k false) → (map (λ (q : Process). release floor q) qs ≡ qs) × (flat_map (λ (q : Process). fossils_of floor q) qs ≡ [])
  none_left [] rest = (refl, refl)
  none_left (q ∷ qs) rest =
      let later = none_left qs (λ k l. rest (suc k) (omega arith)) in
      let here = rest zero (omega arith) in (
        ap (λ (x : Process). x ∷ map (λ (q : Process). release floor q) qs) (release_same floor q here) ∙ ap (λ (xs : List Process). q ∷ xs) later.0,
        ap (λ (ds : List Done). ds ++ flat_map (λ (q : Process). fossils_of floor q) qs) (fossils_none floor q here) ∙ later.1,
      )

-- the processes before, the processes now, and the reports so far
pub record IsCollected (floor : ℕ) (before now : List Process) (fossils : List Done) : Type 0 where
  pub processes : map (λ (q : Process). release floor q) now ≡ map (λ (q : Process). release floor q) before
  pub fossils_are : fossils ++ flat_map (λ (q : Process). fossils_of floor q) now ≡ flat_map (λ (q : Process). fossils_of floor q) before

pub none_collected : (floor : ℕ) (qs : List Process) (fossils : List Done) → fossils ≡ [] → IsCollected floor qs qs fossils
none_collected floor qs fossils e = record { processes = refl; fossils_are = ap (λ (ds : List Done). ds ++ flat_map (λ (q : Process). fossils_of floor q) qs) e }

oldest_at : (end : ℕ) (seats : List ProcessView) (k : ℕ) → (get_or (standings_of end seats) k absent).oldest ≡ first_handled (get_or (processes_of seats) k nobody).done
oldest_at end [] k = refl
oldest_at end (q ∷ seats) zero = refl
oldest_at end (q ∷ seats) (suc k) = oldest_at end seats k

module _ {p : Place} {seats : List ProcessView} {summaries : List Summary} (h : IsStaffed p seats summaries) where
  due_there : (floor k : ℕ) (due : Bool) → is_due floor (get_or summaries k absent).oldest ≡ due → IsDueAt floor (processes_of seats) k due
  due_there floor k due e = ap (is_due floor) (sym (oldest_at p.end seats k) ∙ ap (λ (xs : List Summary). (get_or xs k absent).oldest) (sym h.known)) ∙ e

  pub due_seat : {floor : ℕ} (due : ℕ) → IsFirstDue floor summaries due → due < length seats
  due_seat due first = let inside = first.inside in let same = length-summaries p seats summaries h in omega arith

  due_process : {floor : ℕ} (due : ℕ) → IsFirstDue floor summaries due → due < length (processes_of seats)
  due_process due first = let inside = due_seat due first in let same = length-map seats (λ (v : ProcessView). v.process) in omega arith

  -- if no summary before this place is due, and this one is, it is the first
  pub first_due : {floor : ℕ} (place : ℕ) → place < length seats → is_due floor (get_or summaries place absent).oldest ≡ true → IsQuiet floor summaries place → IsFirstDue floor summaries place
  first_due place l due quiet = record { inside = (let same = length-summaries p seats summaries h in omega arith); due = due; first = quiet }

  pub one_more_collected : {floor : ℕ} {before : List Process} {fossils : List Done} (due : ℕ) (now : List Process) (more : List Done) → IsCollected floor before (processes_of seats) fossils → IsFirstDue floor summaries due →
      now ≡ with_released floor (processes_of seats) due → more ≡ fossils ++ fossils_of floor (get_or (processes_of seats) due nobody) → IsCollected floor before now more
  one_more_collected {floor} {before} {fossils} due now more so first is are =
      let qs : List Process = processes_of seats in
      let left : List Done = flat_map (λ (q : Process). fossils_of floor q) (with_released floor qs due) in
      record {
        processes = ap (map (λ (q : Process). release floor q)) is ∙ same_released floor qs due ∙ so.processes;
        fossils_are =
            ap (λ (xs : List Process). more ++ flat_map (λ (q : Process). fossils_of floor q) xs) is
            ∙ ap (λ (ds : List Done). ds ++ left) are
            ∙ append_assoc fossils (fossils_of floor (get_or qs due nobody)) left
            ∙ ap (λ (ds : List Done). fossils ++ ds) (reported_first floor qs due (due_process due first) (λ k l. due_there floor k false (first.first k l)))
            ∙ so.fossils_are;
      }

  pub quiet_all : (floor count : ℕ) → length seats ≤ count → IsQuiet floor summaries count → IsQuiet floor summaries (length summaries)
  quiet_all floor count most quiet k l = let same = length-summaries p seats summaries h in quiet k (omega arith)

  -- a process that has released is not due
  pub quiet_again : (floor place : ℕ) (p' : Place) (seats' : List ProcessView) (summaries' : List Summary) → place < length seats → IsQuiet floor summaries place → IsStaffed p' seats' summaries' →
      processes_of seats' ≡ with_released floor (processes_of seats) place → IsQuiet floor summaries' (place + 1)
  quiet_again floor place p' seats' summaries' inside quiet h' is k l =
      let qs : List Process = processes_of seats in
      let q : Process = release floor (get_or qs place nobody) in
      let same = length-map seats (λ (v : ProcessView). v.process) in
      ap (is_due floor) (ap (λ (xs : List Summary). (get_or xs k absent).oldest) h'.known ∙ oldest_at p'.end seats' k)
      ∙ ap (λ (xs : List Process). is_due floor (first_handled (get_or xs k nobody).done)) is
      ∙ elim (cases_eq k place) [
        | inl e ↦ ap (λ (j : ℕ). is_due floor (first_handled (get_or (set qs place q) j nobody).done)) e
            ∙ ap (λ (r : Process). is_due floor (first_handled r.done)) (get_or-set_same qs place q nobody (omega arith))
            ∙ rests floor (get_or qs place nobody).done
        | inr e ↦ ap (λ (r : Process). is_due floor (first_handled r.done)) (get_or-set_other qs place k q nobody e) ∙ due_there floor k false (quiet k (omega arith))
      ]

  pub all_collected : {floor : ℕ} {before : List Process} {fossils : List Done} → IsCollected floor before (processes_of seats) fossils → IsQuiet floor summaries (length summaries) →
      (processes_of seats ≡ map (λ (q : Process). release floor q) before) × (fossils ≡ flat_map (λ (q : Process). fossils_of floor q) before)
  all_collected {floor} {before} {fossils} so quiet =
      let many = length-summaries p seats summaries h in
      let same = length-map seats (λ (v : ProcessView). v.process) in
      let none = none_left floor (processes_of seats) (λ k l. due_there floor k false (quiet k (omega arith))) in (
        sym none.0 ∙ so.processes,
        sym (append-nil fossils) ∙ ap (λ (ds : List Done). fossils ++ ds) (sym none.1) ∙ so.fossils_are,
      )

-- no summary is due before `from`, nor from there to `to`
pub quiet_further : (floor : ℕ) (summaries : List Summary) (from to : ℕ) → IsQuiet floor summaries from → IsQuietFrom floor summaries from to → IsQuiet floor summaries to
quiet_further floor summaries from to quiet more k l = elim (cases_lt k from) [ inl b ↦ quiet k b | inr b ↦ more k b l ]

pub node_collected : (floor : ℕ) (p p' : Place) (before now : List Process) → p' ≡ p → now ≡ map (λ (q : Process). release floor q) before → node_at (at_floor floor p') now ≡ after floor (working before [] 0) (node_at p before)
node_collected floor p p' before now same is = ap (λ (k : Place). node_at (at_floor floor k) now) same ∙ ap (node_at (at_floor floor p)) is

-- 3. One process that releases

-- a process after it releases the handlings below the floor
abbrev pub collected : ℕ → ProcessView → ProcessView
collected floor q = record { lp = q.lp; floor = floor; spent = q.spent; process = release floor q.process }

seated_collected : (floor : ℕ) (q : ProcessView) → IsSeated floor q → IsSeated floor (collected floor q)
seated_collected floor q h = record {
  from_floor = omega arith;
  unspent = h.unspent;
  own_done = release_done (λ (x : Message). x.to ≡ q.lp) floor q.process h.own_done;
  own_waiting = h.own_waiting;
}

module _ (p : Place) (seats : List ProcessView) (summaries : List Summary) (place : ℕ) (q : ProcessView) (h : IsStaffed p seats summaries) (there : place < length seats) (read : q ≡ get_or seats place q) where
  pub seated_at : IsSeated p.floor q
  seated_at = subst (IsSeated p.floor) (sym read) (Every-get_or (IsSeated p.floor) seats place q there h.seated)

  pub process_at : get_or (processes_of seats) place nobody ≡ q.process
  process_at = get_or-map (λ (v : ProcessView). v.process) seats place q nobody there ∙ ap (λ (v : ProcessView). v.process) (sym read)

  pub staffed_then : (r : ProcessView) (summary : Summary) → r ≡ collected p.floor q → summary ≡ represented_of p.end r → IsStaffed p (set seats place r) (set summaries place summary)
  staffed_then r summary is known =
      staffed_again p seats summaries place q r summary h read (ap (λ (v : ProcessView). v.lp) is) (subst (IsSeated p.floor) (sym is) (seated_collected p.floor q seated_at)) known

  -- only the oldest time of its summary can change
  pub summary_then : (r : ProcessView) (oldest : Option ℕ) → r ≡ collected p.floor q → oldest ≡ first_handled r.process.done → with_oldest oldest (get_or summaries place absent) ≡ represented_of p.end r
  summary_then r oldest is time =
      ap (with_oldest oldest) (ap (λ (xs : List Summary). get_or xs place absent) h.known ∙ get_or-map (λ (v : ProcessView). represented_of p.end v) seats place q absent there ∙ ap (represented_of p.end) (sym read))
      ∙ ap (λ (t : Option ℕ). with_oldest t (represented_of p.end q)) (time ∙ ap (λ (v : ProcessView). first_handled v.process.done) is)
      ∙ sym (ap (represented_of p.end) is)

  pub processes_then : (r : ProcessView) → r ≡ collected p.floor q → processes_of (set seats place r) ≡ set (processes_of seats) place (release p.floor (get_or (processes_of seats) place nobody))
  processes_then r is =
      map-set (λ (v : ProcessView). v.process) seats place r
      ∙ ap (λ (v : ProcessView). set (processes_of seats) place v.process) is
      ∙ ap (λ (x : Process). set (processes_of seats) place (release p.floor x)) (sym process_at)
