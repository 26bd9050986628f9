-- A node at work on a parcel: its processes stay consistent with the model, it sends nothing before
-- its deliveries, and each message is accounted for.
use Rattle.std.proofs.Common.{ℕ, ◌<◌, ◌≤◌, ◌≡◌, ◌+◌, ◌*◌, ◌/◌, ◌%◌, ◌^◌, ◌++◌, ◌∙◌, List, [], ◌∷◌, flat_map, length, refl, ap, inl, inr, arith, ◌⊎◌, Option, Some, None, zero, suc, subst, get_or, true, cond, map, sym, set, length-set, get_or-set_same, get_or-set_other}
use Rattle.std.proofs.lemmas.Bool.{cond_both, cases_eq, ltb-true, leb-true}
use Rattle.std.proofs.lemmas.List.{length-map, map-append, get_or-map}
use Rattle.std.proofs.lemmas.List.Concat.{flat_map-append}
use Rattle.std.proofs.lemmas.Nat.{div-add-mod'}
use Rattle.std.proofs.lemmas.Option.{none-some, same_Some}
use Rattle.std.specs.List.{AllByRecursion as Every}
use Rattle.std.specs.Prelude.{nat_lt}
use Rattle.eventkey.proofs.Bags.{copies-flat_map-set, one_if_same_cases, time_from_at_most}
use Rattle.eventkey.proofs.Lists.{Every-append, Every-both, Every-get_or, Every-left, Every-map, Every-remove_one, Every-right, Every-set, Every-weaker, IsAscending-right, copies-append_signed, copies-cons, minus_of_plus, plus_of_plus}
use Rattle.eventkey.proofs.Times.{IsFrom}
use Rattle.eventkey.specs.Bag.{IsAscending, copies, one_if_same}
use Rattle.eventkey.specs.Message.{IsRanged, Message, is_before}
use Rattle.eventkey.specs.Signed.{of_sign, plus}
use Rattle.eventkey.specs.declared.Sign.{Sign}
use Rattle.eventkey.specs.declared.Sign.TheVariants.{Minus, Plus}
use Rattle.eventkey.specs.declared.Signed.{Signed}
use Rattle.model.proofs.Worlds.{stamp_addressed}
use Rattle.model.specs.Meaning.{IsAddressed, IsLawful, IsWords, Meaning}
use Rattle.queues.specs.Record.{Record, handled_before, handled_from, messages, number_before, sent_in, state_before}
use Rattle.process.proofs.Arrivals.{IsFine, IsLater, fold_kept, stamp_later}
use Rattle.process.proofs.HandlingLaws.{fine_handle, handled_before-from}
use Rattle.process.proofs.Laws.{arrival_is_balanced, arrival_stays_consistent, arrival_looks_ahead, arrival_cancels_sends, handling_is_balanced, handling_stays_consistent, reports_stay_consistent}
use Rattle.process.specs.Process.{Process, arrive, fossils_of, handle, handling_of, has_room, nobody, queue_of, release, sent_by, state_after, cancelled_sends}
use Rattle.process.specs.Consistent.{IsConsistentProcess, AreConsistent, held}
use Rattle.process.specs.declared.Done.{Done}
use Rattle.node.proofs.Arrived.{arrived_parts, fine_arrive, fine_cancelled}
use Rattle.node.proofs.Seats.{own_at, own_place}
use Rattle.node.specs.Handling.{own_lps}
use Rattle.node.specs.Kept.{HasRanged, IsNodeKept, IsPast, IsUnderWay, Past, ReleasingIsKept, WorkIsKept, own}
use Rattle.node.specs.Node.{Work, deliver_here, deliver_one_here, first, here, least_of, lesser, run_here, run_one_here, start, turn_here}

-- 1. One process

-- the state after the reported handlings is a list of words
pub reported_words : (m : Meaning) (lp : ℕ) → IsLawful m → lp < m.lps → (ds : List Done) (state : List ℕ) (number : ℕ) → IsWords state → Every (λ (d : Done). IsRanged d.message) ds →
    AreConsistent m lp state number ds → IsWords (state_after ds state)
reported_words m lp law there [] state number words ranged f = words
reported_words m lp law there (d ∷ ds) state number words ranged f =
    reported_words m lp law there ds d.after d.number_after (rw f.1 (law.words lp state d.message there words ranged.0)) ranged.1 f.4

done_ascending : {m : Meaning} {lp time : ℕ} {state : List ℕ} {number floor : ℕ} {reported : List Done} {q : Process} → IsConsistentProcess m lp time state number floor reported q → IsAscending (messages q.done)
done_ascending {reported = reported} {q = q} h = IsAscending-right (map (λ (d : Done). d.message) reported) (messages q.done) h.ascending

fine_of : (q : Process) → HasRanged q → IsFine IsRanged q
fine_of q h = record { handled = h.done; waiting = h.waiting; antis = h.antis; sent = h.sent }

ranged_of : (q : Process) → IsFine IsRanged q → HasRanged q
ranged_of q h = record { done = h.handled; waiting = h.waiting; antis = h.antis; sent = h.sent }

ranged_release : (floor : ℕ) (q : Process) → HasRanged q → HasRanged (release floor q)
ranged_release floor q h =
    let split = handled_before-from floor q.done in
    let done : Every IsRanged (messages (handled_before floor q.done) ++ messages (handled_from floor q.done)) = rw (← map-append (λ (h : Record). h.message) (handled_before floor q.done) (handled_from floor q.done), split) h.done in
    let sent : Every IsRanged (sent_in (handled_before floor q.done) ++ sent_in (handled_from floor q.done)) = rw (← flat_map-append (λ (h : Record). h.sent) (handled_before floor q.done) (handled_from floor q.done), split) h.sent in
    record {
      done = Every-right IsRanged (messages (handled_before floor q.done)) (messages (handled_from floor q.done)) done;
      waiting = h.waiting;
      antis = h.antis;
      sent = Every-right IsRanged (sent_in (handled_before floor q.done)) (sent_in (handled_from floor q.done)) sent;
    }

-- 2. A message for another process, and the least waiting one

not_for_by : (x : Message) (sign sign' : Sign) (m : Message) → (x.to ≡ m.to → ⊥) → copies x (of_sign sign (record { sign = sign'; message = m } ∷ [])) ≡ 0
not_for_by x sign sign' m apart = elim (one_if_same_cases x m) [
  | inl e ↦ absurd (apart (ap (λ (y : Message). y.to) e.0))
  | inr e ↦ each sign sign' e.1
]
  where
    each : (sign sign' : Sign) → one_if_same x m ≡ 0 → copies x (of_sign sign (record { sign = sign'; message = m } ∷ [])) ≡ 0
    each Plus Plus z = omega arith
    each Plus Minus z = refl
    each Minus Plus z = refl
    each Minus Minus z = omega arith

pub not_for : (x : Message) (sign : Sign) (s : Signed) → (x.to ≡ s.message.to → ⊥) → copies x (of_sign sign (s ∷ [])) ≡ 0
not_for x sign s apart = not_for_by x sign s.sign s.message apart

lesser_is : (a b : Option Message) (x : Message) → lesser a b ≡ Some x → (a ≡ Some x) ⊎ (b ≡ Some x)
lesser_is None b x e = inr e
lesser_is (Some y) None x e = inl e
lesser_is (Some y) (Some z) x f = cond_both (is_before z y) (Some z) (Some y) (λ (r : Option Message). r ≡ Some x → (Some y ≡ Some x) ⊎ (Some z ≡ Some x)) (λ _ e. inr e) (λ _ e. inl e) f

first_is : (xs : List Message) (x : Message) → first xs ≡ Some x → (rest : List Message) × (xs ≡ x ∷ rest)
first_is [] x e = absurd (none-some x e)
first_is (y ∷ ys) x e = (ys, ap (λ (z : Message). z ∷ ys) (same_Some y x e))

pub least_of_is : (x : Message) (qs : List Process) → least_of qs ≡ Some x → (k : ℕ) × (k < length qs) × ((rest : List Message) × ((get_or qs k nobody).waiting ≡ x ∷ rest))
least_of_is x [] e = absurd (none-some x e)
least_of_is x (q ∷ qs) e = elim (lesser_is (first q.waiting) (least_of qs) x e) [
  | inl f ↦ (zero, omega arith, first_is q.waiting x f)
  | inr f ↦ (let r = least_of_is x qs f in (suc r.0, omega (arith, r.1), r.2))
]

pub same_place : (nodes a b : ℕ) → a % nodes ≡ b % nodes → a / nodes ≡ b / nodes → a ≡ b
same_place nodes a b e f = let g = ap (λ (z : ℕ). z * nodes) f in omega (arith, div-add-mod' a nodes, div-add-mod' b nodes)

-- 3. A change of one process

module _ (m : Meaning) (nodes node floor low : ℕ) (small : node < nodes) (past : Past) where
  abbrev ReportedAt : ℕ → Process → Type 0
  ReportedAt lp q = IsConsistentProcess m lp past.time (past.state lp) (past.number lp) floor (past.reported lp) q

  abbrev Waits : Process → Type 0
  Waits q = Every (IsFrom low) (q.waiting ++ q.antis)

  module _ (qs : List Process) (h : IsNodeKept m nodes node floor low past qs) (lp : ℕ) (l : lp < m.lps) (on : lp % nodes ≡ node) where
    pub place : lp / nodes < length qs
    place = let a = (own_place nodes node small m.lps lp on l).0 in let b = h.size in omega arith

    pub own_ranged : HasRanged (own nodes qs lp)
    own_ranged = Every-get_or HasRanged qs (lp / nodes) nobody place h.ranged

    pub own_waits : Waits (own nodes qs lp)
    own_waits = Every-get_or Waits qs (lp / nodes) nobody place h.late

    pub own_same : (q : Process) → own nodes (set qs (lp / nodes) q) lp ≡ q
    own_same q = get_or-set_same qs (lp / nodes) q nobody place

    pub own_other : (q : Process) (k : ℕ) → k % nodes ≡ node → (k ≡ lp → ⊥) → own nodes (set qs (lp / nodes) q) k ≡ own nodes qs k
    own_other q k e apart = get_or-set_other qs (lp / nodes) (k / nodes) q nobody (λ f. apart (same_place nodes k lp (e ∙ sym on) f))

    pub kept_set : (q : Process) → ReportedAt lp q → HasRanged q → Waits q → IsNodeKept m nodes node floor low past (set qs (lp / nodes) q)
    kept_set q reported ranged waits = record {
      size = length-set qs (lp / nodes) q ∙ h.size;
      reported = λ k k_there k_on. elim (cases_eq k lp) [
        | inl e ↦ subst (λ (j : ℕ). ReportedAt j (own nodes (set qs (lp / nodes) q) j)) (sym e) (subst (ReportedAt lp) (sym (own_same q)) reported)
        | inr e ↦ subst (ReportedAt k) (sym (own_other q k k_on e)) (h.reported k k_there k_on)
      ];
      ranged = Every-set HasRanged qs (lp / nodes) q ranged h.ranged;
      late = Every-set Waits qs (lp / nodes) q waits h.late;
    }

  -- the facts about the least waiting message
  record IsLeast (qs : List Process) (x : Message) : Type 0 where
    there : x.to < m.lps
    on : x.to % nodes ≡ node
    rest : List Message
    heads : (own nodes qs x.to).waiting ≡ x ∷ rest

  least_known : (qs : List Process) (x : Message) → IsNodeKept m nodes node floor low past qs → least_of qs ≡ Some x → IsLeast qs x
  least_known qs x h e =
      let r = least_of_is x qs e in
      let k : ℕ = r.0 in
      let lp : ℕ = get_or (own_lps nodes node m.lps) k 0 in
      let a = own_at nodes node small m.lps k (let s = h.size in let b = r.1 in omega arith) in
      let heads : (own nodes qs lp).waiting ≡ x ∷ r.2.0 = ap (λ (j : ℕ). (get_or qs j nobody).waiting) a.place ∙ r.2.1 in
      let mine : Every (λ (y : Message). y.to ≡ lp) (x ∷ r.2.0) = subst (Every (λ (y : Message). y.to ≡ lp)) heads (h.reported lp a.there a.sits).own_waiting in
      let same : x.to ≡ lp = mine.0 in
      record {
        there = subst (λ (j : ℕ). j < m.lps) (sym same) a.there;
        on = ap (λ (j : ℕ). j % nodes) same ∙ a.sits;
        rest = r.2.0;
        heads = ap (λ (j : ℕ). (own nodes qs j).waiting) same ∙ heads;
      }

-- 4. Deliveries and turns

module _ (m : Meaning) (law : IsLawful m) (end : ℕ) (short : end ≤ 2 ^ 40) (nodes node floor low : ℕ) (there : node < nodes) (under : floor ≤ low) (past : Past) (known : IsPast m past) (all : List Signed) (qs : List Process) where
  -- the work so far, with these deliveries left
  record IsGoing (ss : List Signed) (w : Work) : Type 0 where
    kept : IsNodeKept m nodes node floor low past w.processes
    out : Every (IsUnderWay m.lps low) w.out
    held_is : (x : Message) → x.to < m.lps → x.to % nodes ≡ node →
        held x (own nodes w.processes x.to) + copies x (own nodes qs x.to).antis + copies x (of_sign Minus all) + copies x (of_sign Plus ss)
        ≡ held x (own nodes qs x.to) + copies x (own nodes w.processes x.to).antis + copies x (of_sign Plus all) + copies x (of_sign Minus ss)
    sent_is : (x : Message) → copies x (flat_map sent_by w.processes) + copies x (of_sign Minus w.out) ≡ copies x (flat_map sent_by qs) + copies x (of_sign Plus w.out)

  -- the state before the history of a process is a list of words
  words_before : (lp : ℕ) (q : Process) → lp < m.lps → ReportedAt m nodes node floor low there past lp q → IsWords (state_before q.done q.state)
  words_before lp q l h = rw h.state_meets (reported_words m lp law l (past.reported lp) (past.state lp) (past.number lp) (known.words lp l) (known.reported lp l) h.consistent_fold)

  deliver_one_kept : (s : Signed) (ss : List Signed) (w : Work) → s.message.to % nodes ≡ node → IsUnderWay m.lps low s → IsGoing (s ∷ ss) w → IsGoing ss (deliver_one_here nodes s w)
  deliver_one_kept s ss w on way h =
      let lp : ℕ = s.message.to in
      let q : Process = own nodes w.processes lp in
      let k = h.kept in
      let l = way.there in
      let late = way.late in
      let reported = k.reported lp l on in
      let fine = fine_of q (own_ranged m nodes node floor low there past w.processes k lp l on) in
      let waits = own_waits m nodes node floor low there past w.processes k lp l on in
      let up = done_ascending reported in
      let parts = arrived_parts s (queue_of q) (IsFrom low) up (λ x p. let t = time_from_at_most s.message x p in omega arith) late
      (Every-left (IsFrom low) q.waiting q.antis waits) (Every-right (IsFrom low) q.waiting q.antis waits) in
      let new : Process = arrive s q in
      record {
        kept = kept_set m nodes node floor low there past w.processes k lp l on new
            (arrival_stays_consistent m lp past.time (past.state lp) (past.number lp) floor (past.reported lp) s q refl (omega arith) reported)
            (ranged_of new (fine_arrive IsRanged s q fine way.ranged))
            (Every-append (IsFrom low) new.waiting new.antis parts.0 parts.1);
        out = Every-append (IsUnderWay m.lps low) w.out (cancelled_sends s q) h.out
            (Every-both (λ (t : Signed). (s.message.time ≤ t.message.time) × (t.message.to < m.lps)) (λ (t : Signed). IsRanged t.message) (IsUnderWay m.lps low)
            (λ t p r. record { late = (let a = p.0 in omega arith); there = p.1; ranged = r }) (cancelled_sends s q)
            (arrival_looks_ahead m lp s q law l reported.history (words_before lp q l reported) fine.handled up)
            (fine_cancelled IsRanged s q fine));
        held_is = λ x x_l x_on.
            let old = h.held_is x x_l x_on in
            elim (cases_eq x.to lp) [
              | inl e ↦
                  let new_at = ap (own nodes (set w.processes (lp / nodes) new)) e ∙ own_same m nodes node floor low there past w.processes k lp l on new in
                  let old_at = ap (own nodes w.processes) e in
                  let a1 = ap (held x) new_at in
                  let a2 = ap (λ (p : Process). copies x p.antis) new_at in
                  let b1 = ap (held x) old_at in
                  let b2 = ap (λ (p : Process). copies x p.antis) old_at in
                  omega (arith, arrival_is_balanced x s q, copies-cons x Plus s ss, copies-cons x Minus s ss)
              | inr e ↦
                  let new_at = own_other m nodes node floor low there past w.processes k lp l on new x.to x_on e in
                  let a1 = ap (held x) new_at in
                  let a2 = ap (λ (p : Process). copies x p.antis) new_at in
                  omega (arith, not_for x Plus s e, not_for x Minus s e, copies-cons x Plus s ss, copies-cons x Minus s ss)
            ];
        sent_is = λ x.
            let old = h.sent_is x in
            let back = arrival_cancels_sends x s q in
            let b0 = back.0 in
            let b1 = back.1 in
            let sent = copies-flat_map-set sent_by x w.processes (lp / nodes) new nobody (place m nodes node floor low there past w.processes k lp l on) in
            omega (arith, copies-append_signed x Plus w.out (cancelled_sends s q), copies-append_signed x Minus w.out (cancelled_sends s q));
      }

  deliver_kept : (ss : List Signed) (w : Work) → Every (λ (s : Signed). s.message.to % nodes ≡ node) ss → Every (IsUnderWay m.lps low) ss → IsGoing ss w → IsGoing [] (deliver_here nodes ss w)
  deliver_kept [] w on way h = h
  deliver_kept (s ∷ ss) w on way h = deliver_kept ss (deliver_one_here nodes s w) on.1 way.1 (deliver_one_kept s ss w on.0 way.0 h)

  run_one_kept : (x : Message) (w : Work) → IsLeast m nodes node floor low there past w.processes x → x.time < end → has_room m x (here nodes w x.to) ≡ true → IsGoing [] w → IsGoing [] (run_one_here m nodes x w)
  run_one_kept x w least early room h =
      let lp : ℕ = x.to in
      let q : Process = own nodes w.processes lp in
      let k = h.kept in
      let l = least.there in
      let on = least.on in
      let rest = least.rest in
      let heads = least.heads in
      let reported = k.reported lp l on in
      let fine = fine_of q (own_ranged m nodes node floor low there past w.processes k lp l on) in
      let waits = own_waits m nodes node floor low there past w.processes k lp l on in
      let ranged : Every IsRanged (x ∷ rest) = subst (Every IsRanged) heads fine.waiting in
      let from : Every (IsFrom low) (x ∷ rest) = subst (Every (IsFrom low)) heads (Every-left (IsFrom low) q.waiting q.antis waits) in
      let now : IsWords q.state = (fold_kept m lp law l q.done (state_before q.done q.state) (number_before q.done q.number) q.state q.number (words_before lp q l reported) fine.handled reported.history).1 in
      let goes = law.each lp q.state x l now ranged.0 in
      let fits : q.number + length (m.sends lp q.state x) ≤ 2 ^ 63 = leb-true (q.number + length (m.sends lp q.state x)) (2 ^ 63) room in
      let later = stamp_later m.lps lp x.time q.number (m.sends lp q.state x) goes in
      let addressed = stamp_addressed m.lps lp x.time q.number (m.sends lp q.state x) law.few_lps l (omega arith) fits goes in
      let sent : List Message = (handling_of m lp x q).sent in
      let new : Process = handle m lp x q in
      record {
        kept = kept_set m nodes node floor low there past w.processes k lp l on new
            (handling_stays_consistent m lp x q past.time (past.state lp) (past.number lp) floor (past.reported lp) rest heads fits reported)
            (ranged_of new (fine_handle IsRanged m lp x q fine rest heads (Every-weaker (IsAddressed m.lps) IsRanged (λ y a. a.ranged) sent addressed)))
            (Every-append (IsFrom low) new.waiting new.antis (Every-remove_one (IsFrom low) x q.waiting (Every-left (IsFrom low) q.waiting q.antis waits)) (Every-right (IsFrom low) q.waiting q.antis waits));
        out = Every-append (IsUnderWay m.lps low) w.out (map plus sent) h.out
            (Every-map (IsUnderWay m.lps low) plus sent
            (Every-both (IsLater m.lps x.time) (IsAddressed m.lps) (λ (y : Message). IsUnderWay m.lps low (plus y)) (λ y p r. record { late = (let a = p.0 in let b = from.0 in omega arith); there = p.1; ranged = r.ranged }) sent later addressed));
        held_is = λ y y_l y_on.
            let old = h.held_is y y_l y_on in
            let same = (handling_is_balanced m lp x q y rest heads).0 in
            elim (cases_eq y.to lp) [
              | inl e ↦
                  let new_at = ap (own nodes (set w.processes (lp / nodes) new)) e ∙ own_same m nodes node floor low there past w.processes k lp l on new in
                  let old_at = ap (own nodes w.processes) e in
                  let a1 = ap (held y) new_at in
                  let a2 = ap (λ (p : Process). copies y p.antis) new_at in
                  let b1 = ap (held y) old_at in
                  let b2 = ap (λ (p : Process). copies y p.antis) old_at in
                  omega arith
              | inr e ↦
                  let new_at = own_other m nodes node floor low there past w.processes k lp l on new y.to y_on e in
                  let a1 = ap (held y) new_at in
                  let a2 = ap (λ (p : Process). copies y p.antis) new_at in
                  omega arith
            ];
        sent_is = λ y.
            let old = h.sent_is y in
            let more = (handling_is_balanced m lp x q y rest heads).1 in
            let plus_is = ap (copies y) (plus_of_plus sent) in
            let minus_is = ap (copies y) (minus_of_plus sent) in
            let sums = copies-flat_map-set sent_by y w.processes (lp / nodes) new nobody (place m nodes node floor low there past w.processes k lp l on) in
            omega (arith, copies-append_signed y Plus w.out (map plus sent), copies-append_signed y Minus w.out (map plus sent));
      }

  turn_kept : (go : Work → Option Work) → ((u v : Work) → IsGoing [] u → go u ≡ Some v → IsGoing [] v) → (w v : Work) (o : Option Message) →
      ((x : Message) → o ≡ Some x → IsLeast m nodes node floor low there past w.processes x) → IsGoing [] w → turn_here m end nodes go w o ≡ Some v → IsGoing [] v
  turn_kept go next w v None o h e = subst (IsGoing []) (same_Some w v e) h
  turn_kept go next w v (Some x) o h e' =
      cond_both (nat_lt x.time end) (cond (has_room m x (here nodes w x.to)) (go (run_one_here m nodes x w)) None) (Some w) (λ (r : Option Work). r ≡ Some v → IsGoing [] v)
      (λ before. cond_both (has_room m x (here nodes w x.to)) (go (run_one_here m nodes x w)) None (λ (r : Option Work). r ≡ Some v → IsGoing [] v)
      (λ room e. next (run_one_here m nodes x w) v (run_one_kept x w (o x refl) (ltb-true x.time end before) room h) e)
      (λ _ e. absurd (none-some v e)))
      (λ _ e. subst (IsGoing []) (same_Some w v e) h) e'

  run_kept : (budget : ℕ) (w v : Work) → IsGoing [] w → run_here m end nodes budget w ≡ Some v → IsGoing [] v
  run_kept zero w v h e = subst (IsGoing []) (same_Some w v e) h
  run_kept (suc budget) w v h e =
      turn_kept (λ (u : Work). run_here m end nodes budget u) (λ (a b : Work). run_kept budget a b) w v (least_of w.processes) (λ x o. least_known m nodes node floor low there past w.processes x h.kept o) h e

pub work_is_kept : WorkIsKept
work_is_kept m end nodes node floor low past parcel qs w law short there under known way on kept e =
    let begun : IsGoing m law end short nodes node floor low there under past known parcel.deliver qs parcel.deliver (start qs) = record { kept = kept; out = tt; held_is = λ x l o. omega arith; sent_is = λ x. refl } in
    let delivered = deliver_kept m law end short nodes node floor low there under past known parcel.deliver qs parcel.deliver (start qs) on way begun in
    let done = run_kept m law end short nodes node floor low there under past known parcel.deliver qs parcel.budget (deliver_here nodes parcel.deliver (start qs)) w delivered e in
    record {
      kept = done.kept;
      out = done.out;
      held_is = λ x l o. let f = done.held_is x l o in omega arith;
      sent_is = done.sent_is;
    }

-- 5. Releasing what is reported

pub own_released : (m : Meaning) (nodes node floor low : ℕ) (past : Past) (qs : List Process) (floor' lp : ℕ) → node < nodes → IsNodeKept m nodes node floor low past qs → lp < m.lps → lp % nodes ≡ node →
    own nodes (map (λ (q : Process). release floor' q) qs) lp ≡ release floor' (own nodes qs lp)
own_released m nodes node floor low past qs floor' lp there h l on = get_or-map (λ (q : Process). release floor' q) qs (lp / nodes) nobody nobody (place m nodes node floor low there past qs h lp l on)

pub releasing_is_kept : ReleasingIsKept
releasing_is_kept m nodes node floor floor' low past qs there start less under h = record {
  size = length-map qs (λ (q : Process). release floor' q) ∙ h.size;
  reported = λ lp l on.
      let q : Process = own nodes qs lp in
      let waits = Every-weaker (IsFrom low) (IsFrom floor') (λ x a. omega arith) (q.waiting ++ q.antis) (own_waits m nodes node floor low there past qs h lp l on) in
      subst (IsConsistentProcess m lp past.time (past.state lp) (past.number lp) floor' (past.reported lp ++ fossils_of floor' q)) (sym (own_released m nodes node floor low past qs floor' lp there h l on))
      (reports_stay_consistent m lp past.time (past.state lp) (past.number lp) floor floor' (past.reported lp) q start less
      (Every-left (IsFrom floor') q.waiting q.antis waits) (Every-right (IsFrom floor') q.waiting q.antis waits) (h.reported lp l on));
  ranged = Every-map HasRanged (λ (q : Process). release floor' q) qs (Every-weaker HasRanged (λ (q : Process). HasRanged (release floor' q)) (λ q a. ranged_release floor' q a) qs h.ranged);
  late = Every-map (λ (q : Process). Every (IsFrom low) (q.waiting ++ q.antis)) (λ (q : Process). release floor' q) qs h.late;
}
