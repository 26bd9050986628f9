-- Commits that trust no node: reports that are those of a front are what some system state has, all
-- of whose nodes answered the time of the commit and in which nothing travels.
use Rattle.std.proofs.Common.{◌≡◌, ℕ, zero, suc, ◌+◌, ◌%◌, ◌/◌, ◌<◌, ◌≤◌, ◌^◌, List, [], ◌∷◌, ◌++◌, map, flat_map, filter, length, get_or, replicate, refl, sym, ap, ◌∙◌, subst, arith, nat_lt, not, ◌==◌, mod-lt, append-nil, lt-ltb, ltb-true, ltb-false, le-ltb, Some, None, inl, inr, true, false}
use Rattle.std.proofs.lemmas.Bool.{cases_lt, cond-false, cond_both, eq-eqb, eqb-true, not_from_true}
use Rattle.std.proofs.lemmas.List.{ext_get_or, get_or-map, get_or-replicate, length-map, length-replicate}
use Rattle.std.specs.List.{AllByRecursion as Every}
use Rattle.eventkey.proofs.Bags.{Every-from_members, Every-member, IsAscending-add_all, IsAscending-remove_all, copies-add_all, copies-append, copies-remove_all, none_from_Every, same_ascending, time_from_at_most}
use Rattle.eventkey.proofs.Lists.{Every-all, Every-append, Every-filter, Every-get_or-default, Every-map, Every-passes, Every-unmap, Every-weaker, IsAscending-left, IsAscending-filter, copies-filter}
use Rattle.eventkey.specs.Bag.{IsAscending, add_all, copies, remove_all}
use Rattle.eventkey.specs.Message.{IsAtMost, IsRanged, Message}
use Rattle.model.proofs.Steps.{IsUpto_IsReached}
use Rattle.model.proofs.Worlds.{IsUpto_IsWorld, Reaches-append, get_or-below, length-below}
use Rattle.model.specs.Meaning.{IsLawful, Meaning}
use Rattle.model.specs.World.{IsUpto, IsWorld, World, at_time, below, number_of, opening, state_of}
use Rattle.node.proofs.Seats.{own_place}
use Rattle.node.specs.Handling.{own_lps}
use Rattle.queues.specs.Record.{messages}
use Rattle.process.specs.Consistent.{AreConsistent, IsConsistentProcess}
use Rattle.process.specs.Process.{Process, nobody, number_after, sent_by, state_after}
use Rattle.process.specs.declared.Done.{Done}
use Rattle.gvt.proofs.Commit.{IsDone, IsReady, finish}
use Rattle.gvt.proofs.Commits.{done, log_after, systems_may_commit}
use Rattle.gvt.specs.Ledger.{least_floor}
use Rattle.gvt.proofs.Gathered.{before_is_early, copies-reported_by, filter_swap, length-reported_numbers, length-reported_states, reported_before-cons, reported_numbers-at, reported_states-at}
use Rattle.gvt.specs.Judged.{AreOfFront, JudgedCommitIsSequential, JudgesRefuseNoTruth, MayJudge, early}
use Rattle.gvt.specs.Sound.{IsSystem}
use Rattle.gvt.specs.Moves.{after_messages, merged, reported_before, reported_front, reported_numbers, reported_states}
use Rattle.gvt.specs.System.{IsBalanced, IsConsistent, IsSeatedBy, System, all_sent, floor_at, node_of, nodes_of, process_at, processes_of, reported_by, reported_messages, reported_sends}

-- 1. Lists

-- the reports before c are all before c
all_before : (c : ℕ) (ds : List Done) → Every (λ (d : Done). d.message.time < c) ds → reported_before c ds ≡ ds
all_before c [] h = refl
all_before c (d ∷ ds) h = reported_before-cons c d ds h.0 ∙ ap (λ (zs : List Done). d ∷ zs) (all_before c ds h.1)

own_reports : (lp : ℕ) (ds : List Done) → Every (λ (d : Done). d.message.to ≡ lp) (reported_by lp ds)
own_reports lp [] = tt
own_reports lp (d ∷ ds) =
    cond_both (d.message.to == lp) (d ∷ reported_by lp ds) (reported_by lp ds) (Every (λ (d : Done). d.message.to ≡ lp))
    (λ e. (eqb-true d.message.to lp e, own_reports lp ds))
    (λ _. own_reports lp ds)

-- the messages that are not before c
abbrev late : ℕ → List Message → List Message
late c xs = filter (λ (x : Message). not (nat_lt x.time c)) xs

late_ones : (c : ℕ) (xs : List Message) → Every (λ (x : Message). c ≤ x.time) (late c xs)
late_ones c [] = tt
late_ones c (x ∷ xs) = elim (cases_lt x.time c) [
  | inl h ↦
      subst (Every (λ (x : Message). c ≤ x.time))
      (sym (cond-false (not (nat_lt x.time c)) (x ∷ late c xs) (late c xs) (not_from_true (nat_lt x.time c) (lt-ltb x.time c h))))
      (late_ones c xs)
  | inr h ↦
      cond_both (not (nat_lt x.time c)) (x ∷ late c xs) (late c xs) (Every (λ (x : Message). c ≤ x.time)) (λ _. (h, late_ones c xs)) (λ _. late_ones c xs)
]

early_ones : (c : ℕ) (xs : List Message) → Every (λ (x : Message). x.time < c) (early c xs)
early_ones c [] = tt
early_ones c (x ∷ xs) =
    cond_both (nat_lt x.time c) (x ∷ early c xs) (early c xs) (Every (λ (x : Message). x.time < c))
    (λ e. (ltb-true x.time c e, early_ones c xs))
    (λ _. early_ones c xs)

-- each copy is before c or not
parted : (c : ℕ) (x : Message) (xs : List Message) → copies x (early c xs) + copies x (late c xs) ≡ copies x xs
parted c x xs = elim (cases_lt x.time c) [
  | inl h ↦
      (let a = copies-filter x (λ (y : Message). nat_lt y.time c) xs (lt-ltb x.time c h) in
      let b = none_from_Every (λ (y : Message). c ≤ y.time) (late c xs) x (late_ones c xs) (λ k. omega arith) in
      omega arith)
  | inr h ↦
      (let a = copies-filter x (λ (y : Message). not (nat_lt y.time c)) xs (ap not (le-ltb x.time c h)) in
      let b = none_from_Every (λ (y : Message). y.time < c) (early c xs) x (early_ones c xs) (λ k. omega arith) in
      omega arith)
]

-- the send number after reports that are what the model does
number_kept : (m : Meaning) (lp : ℕ) (state : List ℕ) (number : ℕ) (ds : List Done) → number ≤ 2 ^ 63 → AreConsistent m lp state number ds → number_after ds number ≤ 2 ^ 63
number_kept m lp state number [] le are = le
number_kept m lp state number (d ∷ ds) le are = number_kept m lp d.after d.number_after ds are.3 are.4

-- 2. The system state: one node, whose processes have reported all below c, and at which the rest waits

module _ (m : Meaning) (end c : ℕ) (ds : List Done) (w : World) (may : MayJudge m end c ds w) (are : AreOfFront m c ds w) where
  abbrev reports : List Done
  reports = reported_before c ds

  abbrev bag : List Message
  bag = add_all (reported_sends reports) w.pending

  abbrev rest : List Message
  rest = late c bag

  abbrev proc : ℕ → Process
  proc lp = record {
    done = [];
    waiting = filter (λ (x : Message). x.to == lp) rest;
    antis = [];
    state = state_after (reported_by lp reports) (state_of w lp);
    number = number_after (reported_by lp reports) (number_of w lp);
  }

  abbrev procs : ℕ → List Process
  procs node = map proc (own_lps 1 node m.lps)

  abbrev witness : System
  witness = record {
    front = w;
    gathered = reports;
    nodes = map procs (below 1);
    transit = [];
    parcels = replicate 1 None;
    floors = replicate 1 c;
  }

  many : nodes_of witness ≡ 1
  many = length-map (below 1) procs ∙ length-below 1

  node_is : (node : ℕ) → node < 1 → node_of witness node ≡ procs node
  node_is node l =
      get_or-map procs (below 1) node 0 [] (let e = length-below 1 in omega arith)
      ∙ ap procs (get_or-below 1 node 0 l)

  process_is : (lp : ℕ) → lp < m.lps → process_at witness lp ≡ proc lp
  process_is lp l =
      let node : ℕ = lp % 1 in
      let small : node < 1 = mod-lt lp (omega arith) in
      let place = own_place 1 node small m.lps lp refl l in
      ap (λ (n : ℕ). get_or (node_of witness (lp % n)) (lp / n) nobody) many
      ∙ ap (λ (qs : List Process). get_or qs (lp / 1) nobody) (node_is node small)
      ∙ get_or-map proc (own_lps 1 node m.lps) (lp / 1) 0 nobody place.0
      ∙ ap proc place.1

  floor_is : (lp : ℕ) → floor_at witness lp ≡ c
  floor_is lp = ap (λ (n : ℕ). get_or (replicate 1 c) (lp % n) 0) many ∙ get_or-replicate 1 (lp % 1) c 0 (mod-lt lp (omega arith))

  world_is : IsWorld m.lps w
  world_is = IsUpto_IsWorld m end w.time w may.lawful may.short may.front

  before : Every (λ (d : Done). d.message.time < c) reports
  before = before_is_early c ds

  consistent_at : (lp : ℕ) → lp < m.lps → IsConsistentProcess m lp w.time (state_of w lp) (number_of w lp) c (reported_by lp reports) (proc lp)
  consistent_at lp l = record {
    consistent_fold = are.consistent lp l;
    history = (refl, refl);
    state_meets = refl;
    number_meets = refl;
    number_limit = number_kept m lp (state_of w lp) (number_of w lp) (reported_by lp reports)
        (Every-get_or-default (λ (n : ℕ). n ≤ 2 ^ 63) w.numbers lp 0 (IsUpto_IsReached m end w.time w may.lawful may.short may.front).numbers (omega arith))
        (are.consistent lp l);
    ascending = subst IsAscending (sym (append-nil (map (λ (d : Done). d.message) (reported_by lp reports)))) (are.ascending lp l);
    waiting_ascending = IsAscending-filter (λ (x : Message). x.to == lp) rest
        (IsAscending-filter (λ (x : Message). not (nat_lt x.time c)) bag (IsAscending-add_all (reported_sends reports) w.pending world_is.ascending));
    antis_ascending = tt;
    behind = Every-all (λ (y : Message). Every (λ (d : Message). IsAtMost d y) []) (λ _. tt) (filter (λ (x : Message). x.to == lp) rest);
    own_reported = own_reports lp reports;
    own_done = tt;
    own_waiting = Every-passes lp rest;
    own_antis = tt;
    reported_from = Every-filter (λ (d : Done). w.time ≤ d.message.time) (λ (d : Done). d.message.to == lp) reports are.from;
    reported_below = Every-filter (λ (d : Done). d.message.time < c) (λ (d : Done). d.message.to == lp) reports before;
    done_from = tt;
    waiting_from = Every-filter (λ (x : Message). c ≤ x.time) (λ (x : Message). x.to == lp) rest (late_ones c bag);
    antis_from = tt;
  }

  consistent : IsConsistent m witness
  consistent lp l =
      subst (λ (q : Process). IsConsistentProcess m lp w.time (state_of w lp) (number_of w lp) (floor_at witness lp) (reported_by lp reports) q) (sym (process_is lp l))
      (subst (λ (f : ℕ). IsConsistentProcess m lp w.time (state_of w lp) (number_of w lp) f (reported_by lp reports) (proc lp)) (sym (floor_is lp)) (consistent_at lp l))

  none_sent_at : (lps : List ℕ) (others : List Process) → flat_map sent_by others ≡ [] → flat_map sent_by (map proc lps ++ others) ≡ []
  none_sent_at [] others e = e
  none_sent_at (lp ∷ lps) others e = none_sent_at lps others e

  none_sent : (ks : List ℕ) → flat_map sent_by (flat_map (λ (qs : List Process). qs) (map procs ks)) ≡ []
  none_sent [] = refl
  none_sent (k ∷ ks) = none_sent_at (own_lps 1 k m.lps) (flat_map (λ (qs : List Process). qs) (map procs ks)) (none_sent ks)

  -- what was handled and what is left are what was pending and what was sent
  all_there : (x : Message) → copies x (reported_messages reports) + copies x rest ≡ copies x w.pending + copies x (reported_sends reports)
  all_there x =
      let a : copies x (merged c ds) ≡ copies x (early c bag) = ap (copies x) (sym are.whole) in
      omega (arith, a, copies-add_all x (reported_messages reports) [], parted c x bag, copies-add_all x (reported_sends reports) w.pending)

  balanced : IsBalanced m witness
  balanced x l =
      let q = process_is x.to l in
      let handled = ap (λ (q : Process). copies x (messages q.done)) q in
      let waiting = ap (λ (q : Process). copies x q.waiting) q ∙ copies-filter x (λ (y : Message). y.to == x.to) rest (eq-eqb x.to x.to refl) in
      let antis = ap (λ (q : Process). copies x q.antis) q in
      let sent = ap (copies x) (none_sent (below 1)) in
      omega (arith, all_there x, handled, waiting, antis, sent, copies-append x (reported_sends reports) (flat_map sent_by (processes_of witness)))

  seated : IsSeatedBy m.lps witness
  seated = record {
    seats = λ node l.
        ap length (node_is node (let e = many in omega arith))
        ∙ length-map (own_lps 1 node m.lps) proc
        ∙ ap (λ (n : ℕ). length (own_lps n node m.lps)) (sym many);
    parcels = sym many;
    floors = sym many;
    reported = Every-filter (λ (d : Done). d.message.to < m.lps) (λ (d : Done). nat_lt d.message.time c) ds may.there;
  }

  nothing_done : (lp : ℕ) → Every IsRanged (messages (process_at witness lp).done)
  nothing_done lp =
      let qs : Every (λ (q : Process). Every IsRanged (messages q.done)) (node_of witness (lp % nodes_of witness)) =
      Every-get_or-default (λ (qs : List Process). Every (λ (q : Process). Every IsRanged (messages q.done)) qs) witness.nodes (lp % nodes_of witness) []
      (Every-map (λ (qs : List Process). Every (λ (q : Process). Every IsRanged (messages q.done)) qs) procs (below 1)
      (Every-all (λ (node : ℕ). Every (λ (q : Process). Every IsRanged (messages q.done)) (procs node))
      (λ node. Every-map (λ (q : Process). Every IsRanged (messages q.done)) proc (own_lps 1 node m.lps)
      (Every-all (λ (lp : ℕ). Every IsRanged (messages (proc lp).done)) (λ lp. tt) (own_lps 1 node m.lps))) (below 1))) tt in
      Every-get_or-default (λ (q : Process). Every IsRanged (messages q.done)) (node_of witness (lp % nodes_of witness)) (lp / nodes_of witness) nobody qs tt

  abbrev handled : List Message
  handled = merged c ds

  copies_handled : (x : Message) → copies x handled ≡ copies x (reported_messages reports)
  copies_handled x = omega (arith, copies-add_all x (reported_messages reports) [])

  handled_below : Every (λ (x : Message). (x.to < m.lps) × (x.time < c)) handled
  handled_below =
      let there : Every (λ (x : Message). x.to < m.lps) (reported_messages reports) =
      Every-map (λ (x : Message). x.to < m.lps) (λ (d : Done). d.message) reports (Every-filter (λ (d : Done). d.message.to < m.lps) (λ (d : Done). nat_lt d.message.time c) ds may.there) in
      let soon : Every (λ (x : Message). x.time < c) (reported_messages reports) =
      Every-map (λ (x : Message). x.time < c) (λ (d : Done). d.message) reports before in
      Every-from_members (λ (x : Message). (x.to < m.lps) × (x.time < c)) handled (λ x n.
      let some : 1 ≤ copies x (reported_messages reports) = omega (arith, copies_handled x) in (
        Every-member (λ (x : Message). x.to < m.lps) (reported_messages reports) x there some,
        Every-member (λ (x : Message). x.time < c) (reported_messages reports) x soon some,
      ))

  same_reports : reported_before c reports ≡ reports
  same_reports = all_before c reports before

  ready : IsReady m c witness handled
  ready = record {
    reported = consistent;
    balanced = balanced;
    seated = seated;
    some = (let e = many in omega arith);
    world = world_is;
    ranged_reported = Every-filter (λ (d : Done). IsRanged d.message) (λ (d : Done). nat_lt d.message.time c) ds may.ranged;
    ranged_done = nothing_done;
    floors = λ lp. (let e = floor_is lp in omega arith);
    clear = λ x h. (refl, refl);
    ascending = IsAscending-add_all (reported_messages reports) [] tt;
    below = handled_below;
    are = λ x. copies_handled x ∙ ap (λ (zs : List Done). copies x (reported_messages zs)) (sym same_reports);
  }

  finished : IsDone m end c may.lawful may.short may.within witness handled
  finished = finish m end c may.lawful may.short may.within handled witness ready

  -- 3. The front

  abbrev after : World
  after = after_messages m w handled

  upto : IsUpto m end c (at_time c after)
  upto =
      let d = finished in
      let u = may.front in
      record {
        steps = u.steps + length handled;
        reached = Reaches-append m end u.steps (length handled) (opening m) (at_time 0 w) (at_time 0 after) u.reached d.reached;
        time = refl;
        logged = subst (Every (λ (x : Message). x.time < c)) (sym (log_after m w handled))
            (Every-append (λ (x : Message). x.time < c) w.log handled
            (Every-weaker (λ (x : Message). x.time < w.time) (λ (x : Message). x.time < c) (λ x h. let l = may.later in omega arith) w.log u.logged)
            (Every-weaker (λ (x : Message). (x.to < m.lps) × (x.time < c)) (λ (x : Message). x.time < c) (λ x h. h.1) handled handled_below));
        left = d.left;
      }

  by_reports : at_time c after ≡ reported_front c ds w
  by_reports =
      let d = finished in
      let is = world_is in
      let swap : (lp : ℕ) → reported_before c (reported_by lp reports) ≡ reported_by lp reports = λ lp. filter_swap (λ (d : Done). nat_lt d.message.time c) (λ (d : Done). d.message.to == lp) reports ∙ ap (reported_by lp) same_reports in
      let states : after.states ≡ reported_states reports w.states =
      ext_get_or [] after.states (reported_states reports w.states) (d.world.states ∙ sym (length-reported_states reports w.states ∙ is.states)) (λ lp l.
      d.states lp ∙ ap (λ zs. state_after zs (state_of w lp)) (swap lp) ∙ sym (reported_states-at reports w.states lp (subst (λ n. lp < n) (d.world.states ∙ sym is.states) l))) in
      let numbers : after.numbers ≡ reported_numbers reports w.numbers =
      ext_get_or 0 after.numbers (reported_numbers reports w.numbers) (d.world.numbers ∙ sym (length-reported_numbers reports w.numbers ∙ is.numbers)) (λ lp l.
      d.numbers lp ∙ ap (λ zs. number_after zs (number_of w lp)) (swap lp) ∙ sym (reported_numbers-at reports w.numbers lp (subst (λ n. lp < n) (d.world.numbers ∙ sym is.numbers) l))) in
      let all : (y : Message) → copies y after.pending + copies y handled ≡ copies y bag =
      λ y. let a = d.pending y in
      let b : copies y (reported_sends (reported_before c reports)) ≡ copies y (reported_sends reports) = ap (λ (zs : List Done). copies y (reported_sends zs)) same_reports in
      omega (arith, copies-add_all y (reported_sends reports) w.pending) in
      let pending : after.pending ≡ remove_all handled bag =
      same_ascending after.pending (remove_all handled bag) d.world.ascending (IsAscending-remove_all handled bag (IsAscending-add_all (reported_sends reports) w.pending is.ascending)) (λ y.
      let a = all y in
      omega (arith, copies-remove_all y handled bag (λ x. let b = all x in omega arith))) in
      λ i. record { time = c; states = states i; numbers = numbers i; pending = pending i; log = log_after m w handled i }

pub judged_commit_is_sequential : JudgedCommitIsSequential
judged_commit_is_sequential m end c ds w may are = subst (IsUpto m end c) (by_reports m end c ds w may are) (upto m end c ds w may are)

-- 4. Nothing that nodes of the model report is refused

none_early : (c : ℕ) (ds : List Done) → Every (λ (d : Done). c ≤ d.message.time) ds → reported_before c ds ≡ []
none_early c [] h = refl
none_early c (d ∷ ds) h = cond-false (nat_lt d.message.time c) (d ∷ reported_before c ds) (reported_before c ds) (le-ltb d.message.time c h.0) ∙ none_early c ds h.1

-- in message order, what comes after a report that is not before c is not before c either
none_behind : (c : ℕ) (d : Done) (ds : List Done) → IsAscending (reported_messages (d ∷ ds)) → c ≤ d.message.time → reported_before c (d ∷ ds) ≡ []
none_behind c d ds up h =
    none_early c (d ∷ ds) (
      h,
      Every-unmap (λ (x : Message). c ≤ x.time) (λ (d : Done). d.message) ds
          (Every-weaker (IsAtMost d.message) (λ (x : Message). c ≤ x.time) (λ x k. let t = time_from_at_most d.message x k in omega arith) (reported_messages ds) up.0),
    )

consistent_before : (m : Meaning) (lp c : ℕ) (state : List ℕ) (number : ℕ) (ds : List Done) → IsAscending (reported_messages ds) → AreConsistent m lp state number ds → AreConsistent m lp state number (reported_before c ds)
consistent_before m lp c state number [] up f = tt
consistent_before m lp c state number (d ∷ ds) up f = elim (cases_lt d.message.time c) [
  | inl h ↦ subst (AreConsistent m lp state number) (sym (reported_before-cons c d ds h)) (f.0, f.1, f.2, f.3, consistent_before m lp c d.after d.number_after ds up.1 f.4)
  | inr h ↦ subst (AreConsistent m lp state number) (sym (none_behind c d ds up h)) tt
]

ascending_before : (c : ℕ) (ds : List Done) → IsAscending (reported_messages ds) → IsAscending (reported_messages (reported_before c ds))
ascending_before c [] up = tt
ascending_before c (d ∷ ds) up = elim (cases_lt d.message.time c) [
  | inl h ↦ subst (λ (zs : List Done). IsAscending (reported_messages zs)) (sym (reported_before-cons c d ds h)) (
    Every-map (IsAtMost d.message) (λ (d : Done). d.message) (reported_before c ds)
        (Every-filter (λ (e : Done). IsAtMost d.message e.message) (λ (d : Done). nat_lt d.message.time c) ds
        (Every-unmap (IsAtMost d.message) (λ (d : Done). d.message) ds up.0)),
    ascending_before c ds up.1,
  )
  | inr h ↦ subst (λ (zs : List Done). IsAscending (reported_messages zs)) (sym (none_behind c d ds up h)) tt
]

pub judges_refuse_no_truth : JudgesRefuseNoTruth
judges_refuse_no_truth m end c p system later answered =
    let sound = system.sound in
    let may = systems_may_commit m end c p system later answered in
    let gs : List Done = p.gathered in
    let ds : List Done = reported_before c gs in
    let d = done m end c p system.lawful system.short may in
    let swap : (lp : ℕ) → reported_before c (reported_by lp gs) ≡ reported_by lp ds = λ lp. filter_swap (λ (d : Done). nat_lt d.message.time c) (λ (d : Done). d.message.to == lp) gs in
    let up : (lp : ℕ) → lp < m.lps → IsAscending (reported_messages (reported_by lp gs)) = λ lp l. IsAscending-left (reported_messages (reported_by lp gs)) (messages (process_at p lp).done) (sound.reported lp l).ascending in
    let bag : List Message = add_all (reported_sends ds) p.front.pending in
    let is = IsUpto_IsWorld m end p.front.time p.front system.lawful system.short sound.front in
    let early_merged : Every (λ (x : Message). x.time < c) (merged c gs) = Every-from_members (λ (x : Message). x.time < c) (merged c gs) (λ x n.
    Every-member (λ (x : Message). x.time < c) (reported_messages ds) x (Every-map (λ (x : Message). x.time < c) (λ (d : Done). d.message) ds (before_is_early c gs)) (omega (arith, copies-add_all x (reported_messages ds) []))) in
    let same : (x : Message) → copies x (early c bag) ≡ copies x (merged c gs) = λ x. elim (cases_lt x.time c) [
      | inl h ↦
          (let a = copies-filter x (λ (y : Message). nat_lt y.time c) bag (lt-ltb x.time c h) in
          let b = none_from_Every (λ (y : Message). c ≤ y.time) (after_messages m p.front (merged c gs)).pending x d.left (λ k. omega arith) in
          let e = d.pending x in
          omega (arith, copies-add_all x (reported_sends ds) p.front.pending))
      | inr h ↦
          (let a = none_from_Every (λ (y : Message). y.time < c) (early c bag) x (early_ones c bag) (λ k. omega arith) in
          let b = none_from_Every (λ (y : Message). y.time < c) (merged c gs) x early_merged (λ k. omega arith) in
          omega arith)
    ] in
    record {
      consistent = λ lp l. subst (AreConsistent m lp (state_of p.front lp) (number_of p.front lp)) (swap lp)
          (consistent_before m lp c (state_of p.front lp) (number_of p.front lp) (reported_by lp gs) (up lp l) (sound.reported lp l).consistent_fold);
      ascending = λ lp l. subst (λ (zs : List Done). IsAscending (reported_messages zs)) (swap lp) (ascending_before c (reported_by lp gs) (up lp l));
      from = Every-filter (λ (d : Done). p.front.time ≤ d.message.time) (λ (d : Done). nat_lt d.message.time c) gs
          (Every-unmap (λ (x : Message). p.front.time ≤ x.time) (λ (d : Done). d.message) gs
          (Every-from_members (λ (x : Message). p.front.time ≤ x.time) (reported_messages gs) (λ x n.
          let l : x.to < m.lps = Every-member (λ (x : Message). x.to < m.lps) (reported_messages gs) x (Every-map (λ (x : Message). x.to < m.lps) (λ (d : Done). d.message) gs sound.seated.reported) n in
          Every-member (λ (x : Message). p.front.time ≤ x.time) (reported_messages (reported_by x.to gs)) x
          (Every-map (λ (x : Message). p.front.time ≤ x.time) (λ (d : Done). d.message) (reported_by x.to gs) (sound.reported x.to l).reported_from) (omega (arith, copies-reported_by x x.to gs refl)))));
      whole = same_ascending (early c bag) (merged c gs) (IsAscending-filter (λ (x : Message). nat_lt x.time c) bag (IsAscending-add_all (reported_sends ds) p.front.pending is.ascending))
          (IsAscending-add_all (reported_messages ds) [] tt) same;
    }
