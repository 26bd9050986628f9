-- Taking the reply of a node keeps a system state sound, and global virtual time does not fall.
use Rattle.std.proofs.Common.{◌≡◌, ℕ, zero, suc, ◌+◌, ◌/◌, ◌%◌, ◌<◌, ◌≤◌, ◌++◌, ◌∙◌, List, [], ◌∷◌, flat_map, length, get_or, set, Some, None, Option, refl, ap, sym, subst, arith, inl, inr, length-set, get_or-set_same, get_or-set_other}
use Rattle.std.proofs.lemmas.Bool.{cases_lt, cases_eq}
use Rattle.std.proofs.lemmas.List.{append-nil}
use Rattle.std.proofs.lemmas.Option.{none-some}
use Rattle.std.specs.List.{AllByRecursion as Every}
use Rattle.eventkey.proofs.Bags.{Every-from_members, Every-member, copies-append, copies-flat_map-set}
use Rattle.eventkey.proofs.Lists.{Every-append, Every-both, Every-filter, Every-flat_map, Every-get_or, Every-get_or-default, Every-left, Every-map, Every-right, Every-set, Every-unmap, Every-weaker, copies-append_signed, copies-cons, option_map_some}
use Rattle.eventkey.proofs.Times.{Every-from_get_or}
use Rattle.eventkey.specs.Bag.{copies}
use Rattle.eventkey.specs.Message.{IsRanged, Message}
use Rattle.eventkey.specs.Signed.{of_sign}
use Rattle.eventkey.specs.declared.Sign.{Sign}
use Rattle.eventkey.specs.declared.Sign.TheVariants.{Minus, Plus}
use Rattle.eventkey.specs.declared.Signed.{Signed}
use Rattle.model.proofs.Worlds.{IsUpto_IsWorld, words_at}
use Rattle.model.specs.Meaning.{IsWords, Meaning}
use Rattle.model.specs.World.{number_of, state_of}
use Rattle.queues.proofs.Releases.{copies-handled_before-le}
use Rattle.queues.specs.Record.{Record, handled_before, handled_from, messages, number_before, state_before}
use Rattle.process.proofs.Arrivals.{IsLater, fold_kept}
use Rattle.process.proofs.Histories.{reported_messages as messages_of_reported}
use Rattle.process.proofs.Laws.{report_is_balanced}
use Rattle.process.specs.Process.{Process, fossils_of, nobody, sent_by}
use Rattle.process.specs.Consistent.{IsConsistentProcess}
use Rattle.process.specs.declared.Done.{Done}
use Rattle.node.proofs.Seats.{own_at}
use Rattle.node.proofs.Works.{not_for, own_released, place, releasing_is_kept, reported_words, work_is_kept}
use Rattle.node.specs.Handling.{own_lps}
use Rattle.node.specs.Kept.{HasRanged, IsNodeKept, IsPast, IsUnderWay, IsWorkKept, Past, own, reported_too}
use Rattle.node.specs.Node.{Work, released_processes, work_here}
use Rattle.node.specs.declared.Parcel.{Parcel}
use Rattle.gvt.specs.Ledger.{delivered_by}
use Rattle.gvt.proofs.Fossils.{copies-reported_messages, copies-sent_nodes, copies-reported_sends, sent-released, reported_by-all, reported_by-flat_none, reported_by-flat_one, reported_by-none}
use Rattle.gvt.proofs.Gathered.{copies-reported_by, reported_by-apart}
use Rattle.gvt.proofs.Gvt.{Every-parcels, Every-parcels-set, KeptFrom, SignedFrom, copies-parcels-set, gvt-le, gvt_above, gvt_node, gvt_nodes, gvt_travelling, some_within}
use Rattle.gvt.proofs.Places.{at_place}
use Rattle.gvt.specs.System.{IsBalanced, IsSystemInRange, IsProcessInRange, IsSeatedBy, System, all_sent, floor_at, gvt, reported_messages, node_of, nodes_of, process_at, processes_of, reported_sends, reported_by, travelling}
use Rattle.gvt.specs.Moves.{Take, move, system_after_answer, take_from}
use Rattle.gvt.specs.Sound.{IsParcel, IsSoundSystem, IsSystem}

-- 1. The parts of a take

pub record IsTaken (m : Meaning) (end node : ℕ) (p p' : System) : Type 0 where
  pub parcel : Parcel
  pub posted : get_or p.parcels node None ≡ Some parcel
  pub work : Work
  pub done : work_here m end (nodes_of p) parcel (node_of p node) ≡ Some work
  pub is : system_after_answer node parcel p work ≡ p'

pub taken_from : (m : Meaning) (end node : ℕ) (p p' : System) (o : Option Parcel) → get_or p.parcels node None ≡ o → take_from m end node p o ≡ Some p' → IsTaken m end node p p'
taken_from m end node p p' None was e = absurd (none-some p' e)
taken_from m end node p p' (Some parcel) was e =
    let a = option_map_some (system_after_answer node parcel p) (work_here m end (nodes_of p) parcel (node_of p node)) p' e in
    record { parcel = parcel; posted = was; work = a.0; done = a.1; is = a.2 }

-- 2. All sends are in range, since each is balanced by a message that is

plus_ranged : (x : Message) (ss : List Signed) → Every (λ (s : Signed). IsRanged s.message) ss → 1 ≤ copies x (of_sign Plus ss) → IsRanged x
plus_ranged x ss h n = Every-member IsRanged (of_sign Plus ss) x (all ss h) n
  where
    one : (sign : Sign) (m : Message) (xs : List Message) → IsRanged m → Every IsRanged xs → Every IsRanged (elim sign as (λ _. List Message) [ Plus ↦ m ∷ xs | Minus ↦ xs ])
    one Plus m xs r h = (r, h)
    one Minus m xs r h = h

    all : (ss : List Signed) → Every (λ (s : Signed). IsRanged s.message) ss → Every IsRanged (of_sign Plus ss)
    all [] h = tt
    all (s ∷ ss) h = one s.sign s.message (of_sign Plus ss) h.0 (all ss h.1)

sent_within : (x : Message) (qs : List Process) (i : ℕ) → copies x (sent_by (get_or qs i nobody)) ≤ copies x (flat_map sent_by qs)
sent_within x [] i = omega arith
sent_within x (q ∷ qs) zero = omega (arith, copies-append x (sent_by q) (flat_map sent_by qs))
sent_within x (q ∷ qs) (suc i) = omega (arith, copies-append x (sent_by q) (flat_map sent_by qs), sent_within x qs i)

sent_within_nodes : (x : Message) (nodes : List (List Process)) (k i : ℕ) → copies x (sent_by (get_or (get_or nodes k []) i nobody)) ≤ copies x (flat_map sent_by (flat_map (λ (qs : List Process). qs) nodes))
sent_within_nodes x nodes k i = omega (arith, go nodes k, copies-sent_nodes x nodes)
  where
    go : (nodes : List (List Process)) (k : ℕ) → copies x (sent_by (get_or (get_or nodes k []) i nobody)) ≤ copies x (flat_map (λ (qs : List Process). flat_map sent_by qs) nodes)
    go [] k = omega arith
    go (qs ∷ nodes) zero = omega (arith, sent_within x qs i, copies-append x (flat_map sent_by qs) (flat_map (λ (qs : List Process). flat_map sent_by qs) nodes))
    go (qs ∷ nodes) (suc k) = omega (arith, go nodes k, copies-append x (flat_map sent_by qs) (flat_map (λ (qs : List Process). flat_map sent_by qs) nodes))

-- the past of the processes
abbrev pub past_of : System → Past
past_of p = record { time = p.front.time; state = λ (lp : ℕ). state_of p.front lp; number = λ (lp : ℕ). number_of p.front lp; reported = λ (lp : ℕ). reported_by lp p.gathered }

module _ (m : Meaning) (end : ℕ) (p : System) (system : IsSystem m end p) where
  pub past_known : IsPast m (past_of p)
  past_known =
      let h = system.sound in
      let world = IsUpto_IsWorld m end p.front.time p.front system.lawful system.short h.front in
      record {
        words = λ lp l. words_at p.front lp world.words;
        reported = λ lp l. Every-filter (λ (d : Done). IsRanged d.message) (λ (d : Done). _) p.gathered (Every-unmap IsRanged (λ (d : Done). d.message) p.gathered h.in_range.0);
      }

  process_in_range : (lp : ℕ) → IsProcessInRange (process_at p lp)
  process_in_range lp =
      Every-get_or-default IsProcessInRange (node_of p (lp % nodes_of p)) (lp / nodes_of p) nobody
      (Every-get_or-default (λ (qs : List Process). Every IsProcessInRange qs) p.nodes (lp % nodes_of p) [] system.sound.in_range.1 tt) (tt, tt, tt)

  sent_in_range : (lp : ℕ) → lp < m.lps → Every IsRanged (sent_by (process_at p lp))
  sent_in_range lp l =
      let h = system.sound in
      let law = system.lawful in
      let q = process_at p lp in
      let reported = h.reported lp l in
      let words : IsWords (state_before q.done q.state) =
      rw reported.state_meets (reported_words m lp law l (reported_by lp p.gathered) (state_of p.front lp) (number_of p.front lp) (past_known.words lp l) (past_known.reported lp l) reported.consistent_fold) in
      let later = (fold_kept m lp law l q.done (state_before q.done q.state) (number_before q.done q.number) q.state q.number words (process_in_range lp).0 reported.history).0 in
      let there : Every (λ (x : Message). x.to < m.lps) (sent_by q) =
      Every-flat_map (λ (x : Message). x.to < m.lps) (λ (h : Record). h.sent) q.done
      (Every-weaker (λ (h : Record). Every (IsLater m.lps h.message.time) h.sent) (λ (h : Record). Every (λ (x : Message). x.to < m.lps) h.sent)
      (λ h a. Every-weaker (IsLater m.lps h.message.time) (λ (x : Message). x.to < m.lps) (λ x b. b.1) h.sent a) q.done later) in
      Every-from_members IsRanged (sent_by q) (λ x n.
      let l' : x.to < m.lps = Every-member (λ (y : Message). y.to < m.lps) (sent_by q) x there n in
      let same = h.balanced x l' in
      let r = process_in_range x.to in
      let all = sent_within_nodes x p.nodes (lp % nodes_of p) (lp / nodes_of p) in
      let sums = copies-append x (reported_sends p.gathered) (flat_map sent_by (processes_of p)) in
      elim (cases_lt 0 (copies x (reported_messages p.gathered))) [
        | inl a ↦ Every-member IsRanged (reported_messages p.gathered) x h.in_range.0 a
        | inr a ↦ elim (cases_lt 0 (copies x (messages (process_at p x.to).done))) [
          | inl b ↦ Every-member IsRanged (messages (process_at p x.to).done) x r.0 b
          | inr b ↦ elim (cases_lt 0 (copies x (process_at p x.to).waiting)) [
            | inl c ↦ Every-member IsRanged (process_at p x.to).waiting x r.1 c
            | inr c ↦ plus_ranged x (travelling p) h.in_range.2 (omega arith)
          ]
        ]
      ])

  -- 3. The processes of a node

  at_ranged : (node i : ℕ) → node < nodes_of p → i < length (node_of p node) → HasRanged (get_or (node_of p node) i nobody)
  at_ranged = at_place m.lps p system.sound.seated HasRanged (λ lp l. let r = process_in_range lp in record { done = r.0; waiting = r.1; antis = r.2; sent = sent_in_range lp l })

  pub node_kept : (node : ℕ) → node < nodes_of p → IsNodeKept m (nodes_of p) node (get_or p.floors node 0) (gvt end p) (past_of p) (node_of p node)
  node_kept node here =
      let h = system.sound in
      let n : ℕ = nodes_of p in
      record {
        size = h.seated.seats node here;
        reported = λ lp l on.
            subst (λ (k : ℕ). IsConsistentProcess m lp p.front.time (state_of p.front lp) (number_of p.front lp) (get_or p.floors k 0) (reported_by lp p.gathered) (get_or (node_of p k) (lp / n) nobody)) on (h.reported lp l);
        ranged = Every-from_get_or HasRanged (node_of p node) nobody (λ i l. at_ranged node i here l);
        late = gvt_node end p node;
      }

-- a parcel has nothing for another node
not_delivered : (x : Message) (sign : Sign) (nodes node : ℕ) (ss : List Signed) → (x.to % nodes ≡ node → ⊥) → Every (λ (s : Signed). s.message.to % nodes ≡ node) ss → copies x (of_sign sign ss) ≡ 0
not_delivered x Plus nodes node [] other h = refl
not_delivered x Minus nodes node [] other h = refl
not_delivered x sign nodes node (s ∷ ss) other h =
    let apart : x.to ≡ s.message.to → ⊥ = λ e. other (ap (λ (k : ℕ). k % nodes) e ∙ h.0) in
    omega (arith, not_for x sign s apart, not_delivered x sign nodes node ss other h.1, copies-cons x sign s ss)

-- 4. The system state after the take

module _ (m : Meaning) (end node : ℕ) (p : System) (system : IsSystem m end p) (parcel : Parcel) (posted : get_or p.parcels node None ≡ Some parcel) where
  pub here : node < nodes_of p
  here = let a = some_within p.parcels node parcel posted in let b = system.sound.seated.parcels in omega arith

  pub floor_under : get_or p.floors node 0 ≤ gvt end p
  floor_under = Every-get_or (λ (f : ℕ). f ≤ gvt end p) p.floors node 0 (let a = here in let b = system.sound.seated.floors in omega arith) system.sound.floors_low

  front_under : p.front.time ≤ get_or p.floors node 0
  front_under = Every-get_or (λ (f : ℕ). p.front.time ≤ f) p.floors node 0 (let a = here in let b = system.sound.seated.floors in omega arith) system.sound.front_low

  pub fits : IsParcel m (nodes_of p) node (get_or p.floors node 0) (gvt end p) parcel
  fits = system.sound.parcels node parcel posted

  parcels_late : Every (SignedFrom (gvt end p)) (flat_map delivered_by p.parcels)
  parcels_late = Every-right (SignedFrom (gvt end p)) p.transit (flat_map delivered_by p.parcels) (gvt_travelling end p)

  parcels_ranged : Every (λ (s : Signed). IsRanged s.message) (flat_map delivered_by p.parcels)
  parcels_ranged = Every-right (λ (s : Signed). IsRanged s.message) p.transit (flat_map delivered_by p.parcels) system.sound.in_range.2

  pub under_way : Every (IsUnderWay m.lps (gvt end p)) parcel.deliver
  under_way =
      Every-both (λ (s : Signed). (gvt end p ≤ s.message.time) × (s.message.to < m.lps)) (λ (s : Signed). IsRanged s.message) (IsUnderWay m.lps (gvt end p)) (λ s a b. record { late = a.0; there = a.1; ranged = b }) parcel.deliver
      (Every-both (SignedFrom (gvt end p)) (λ (s : Signed). s.message.to < m.lps) (λ (s : Signed). (gvt end p ≤ s.message.time) × (s.message.to < m.lps)) (λ s a b. (a, b)) parcel.deliver
      (Every-parcels (SignedFrom (gvt end p)) p.parcels node parcel posted parcels_late) fits.there)
      (Every-parcels (λ (s : Signed). IsRanged s.message) p.parcels node parcel posted parcels_ranged)

  module _ (w : Work) (done : work_here m end (nodes_of p) parcel (node_of p node) ≡ Some w) where
    pub worked : IsWorkKept m (nodes_of p) node (get_or p.floors node 0) (gvt end p) (past_of p) parcel.deliver (node_of p node) w
    worked = work_is_kept m end (nodes_of p) node (get_or p.floors node 0) (gvt end p) (past_of p) parcel (node_of p node) w system.lawful system.short here floor_under (past_known m end p system) under_way fits.on_node (node_kept m end p system node here) done

    pub let_go : IsNodeKept m (nodes_of p) node parcel.floor (gvt end p) (reported_too (nodes_of p) parcel.floor w.processes (past_of p)) (released_processes parcel.floor w)
    let_go = releasing_is_kept m (nodes_of p) node (get_or p.floors node 0) parcel.floor (gvt end p) (past_of p) w.processes here front_under fits.from fits.upto worked.kept

    fossils : List Done
    fossils = flat_map (λ (q : Process). fossils_of parcel.floor q) w.processes

    new : System
    new = system_after_answer node parcel p w

    same_nodes : nodes_of new ≡ nodes_of p
    unfolding new
    same_nodes = length-set p.nodes node (released_processes parcel.floor w)

    -- the reported handlings of a process of the node are its own
    own_fossils : (lp : ℕ) → lp < m.lps → lp % nodes_of p ≡ node → Every (λ (d : Done). d.message.to ≡ lp) (fossils_of parcel.floor (own (nodes_of p) w.processes lp))
    own_fossils lp l on = Every-right (λ (d : Done). d.message.to ≡ lp) (reported_by lp p.gathered) (fossils_of parcel.floor (own (nodes_of p) w.processes lp)) (let_go.reported lp l on).own_reported

    -- the same for the process at place i
    pub own_fossils_at : (i : ℕ) → i < length w.processes → (lp : ℕ) × (lp < m.lps) × (lp % nodes_of p ≡ node) × (lp / nodes_of p ≡ i) × Every (λ (d : Done). d.message.to ≡ lp) (fossils_of parcel.floor (get_or w.processes i nobody))
    own_fossils_at i l =
        let at = own_at (nodes_of p) node here m.lps i (let e = worked.kept.size in omega arith) in
        let lp : ℕ = get_or (own_lps (nodes_of p) node m.lps) i 0 in
        (lp, at.there, at.sits, at.place, subst (λ (j : ℕ). Every (λ (d : Done). d.message.to ≡ lp) (fossils_of parcel.floor (get_or w.processes j nobody))) at.place (own_fossils lp at.there at.sits))

    none_there : (lp i : ℕ) (l : i < length w.processes) → ((own_fossils_at i l).0 ≡ lp → ⊥) → reported_by lp (fossils_of parcel.floor (get_or w.processes i nobody)) ≡ []
    none_there lp i l apart =
        let at = own_fossils_at i l in
        reported_by-none lp (fossils_of parcel.floor (get_or w.processes i nobody))
        (Every-weaker (λ (d : Done). d.message.to ≡ at.0) (λ (d : Done). d.message.to ≡ lp → ⊥) (λ d e f. apart (sym e ∙ f)) (fossils_of parcel.floor (get_or w.processes i nobody)) at.4)

    reported_here : (lp : ℕ) → lp < m.lps → lp % nodes_of p ≡ node → reported_by lp fossils ≡ fossils_of parcel.floor (own (nodes_of p) w.processes lp)
    unfolding fossils
    reported_here lp l on =
        reported_by-flat_one lp (λ (q : Process). fossils_of parcel.floor q) nobody w.processes (lp / nodes_of p)
        (place m (nodes_of p) node (get_or p.floors node 0) (gvt end p) here (past_of p) w.processes worked.kept lp l on)
        (λ i j apart. none_there lp i j (λ e. apart (sym (own_fossils_at i j).3 ∙ ap (λ (k : ℕ). k / nodes_of p) e)))
        ∙ reported_by-all lp (fossils_of parcel.floor (own (nodes_of p) w.processes lp)) (own_fossils lp l on)

    reported_other : (lp : ℕ) → (lp % nodes_of p ≡ node → ⊥) → reported_by lp fossils ≡ []
    unfolding fossils
    reported_other lp other =
        reported_by-flat_none lp (λ (q : Process). fossils_of parcel.floor q) nobody w.processes
        (λ i j. none_there lp i j (λ e. other (ap (λ (k : ℕ). k % nodes_of p) (sym e) ∙ (own_fossils_at i j).2)))

    -- the processes of the node after the take
    process_here : (lp : ℕ) → lp % nodes_of p ≡ node → process_at new lp ≡ own (nodes_of p) (released_processes parcel.floor w) lp
    unfolding new
    process_here lp on =
        let qs = released_processes parcel.floor w in
        ap (λ (k : ℕ). get_or (get_or (set p.nodes node qs) (lp % k) []) (lp / k) nobody) (length-set p.nodes node qs)
        ∙ ap (λ (k : ℕ). get_or (get_or (set p.nodes node qs) k []) (lp / nodes_of p) nobody) on
        ∙ ap (λ (ps : List Process). get_or ps (lp / nodes_of p) nobody) (get_or-set_same p.nodes node qs [] here)

    process_other : (lp : ℕ) → (lp % nodes_of p ≡ node → ⊥) → process_at new lp ≡ process_at p lp
    unfolding new
    process_other lp other =
        let qs = released_processes parcel.floor w in
        ap (λ (k : ℕ). get_or (get_or (set p.nodes node qs) (lp % k) []) (lp / k) nobody) (length-set p.nodes node qs)
        ∙ ap (λ (ps : List Process). get_or ps (lp / nodes_of p) nobody) (get_or-set_other p.nodes node (lp % nodes_of p) qs [] other)

    floor_here : (lp : ℕ) → lp % nodes_of p ≡ node → floor_at new lp ≡ parcel.floor
    unfolding new
    floor_here lp on =
        ap (λ (k : ℕ). get_or (set p.floors node parcel.floor) (lp % k) 0) (length-set p.nodes node (released_processes parcel.floor w))
        ∙ ap (λ (k : ℕ). get_or (set p.floors node parcel.floor) k 0) on
        ∙ get_or-set_same p.floors node parcel.floor 0 (let a = here in let b = system.sound.seated.floors in omega arith)

    floor_other : (lp : ℕ) → (lp % nodes_of p ≡ node → ⊥) → floor_at new lp ≡ floor_at p lp
    unfolding new
    floor_other lp other =
        ap (λ (k : ℕ). get_or (set p.floors node parcel.floor) (lp % k) 0) (length-set p.nodes node (released_processes parcel.floor w))
        ∙ get_or-set_other p.floors node (lp % nodes_of p) parcel.floor 0 other

    -- the process is consistent with the model, with this floor and these reports
    abbrev ReportedAs : ℕ → ℕ → List Done → Process → Type 0
    ReportedAs lp floor ds q = IsConsistentProcess m lp p.front.time (state_of p.front lp) (number_of p.front lp) floor ds q

    as_reported : (lp : ℕ) {f f' : ℕ} {ds ds' : List Done} {q q' : Process} → f' ≡ f → ds' ≡ ds → q' ≡ q → ReportedAs lp f ds q → ReportedAs lp f' ds' q'
    as_reported lp {f} {f'} {ds} {ds'} {q} {q'} a b c h = subst (λ (g : ℕ). ReportedAs lp g ds' q') (sym a) (subst (λ (es : List Done). ReportedAs lp f es q') (sym b) (subst (ReportedAs lp f ds) (sym c) h))

    new_reported : (lp : ℕ) → lp < m.lps → ReportedAs lp (floor_at new lp) (reported_by lp (p.gathered ++ fossils)) (process_at new lp)
    new_reported lp l = elim (cases_eq (lp % nodes_of p) node) [
      | inl on ↦ as_reported lp (floor_here lp on) (reported_by-apart lp p.gathered fossils ∙ ap (λ (ds : List Done). reported_by lp p.gathered ++ ds) (reported_here lp l on)) (process_here lp on) (let_go.reported lp l on)
      | inr other ↦ as_reported lp (floor_other lp other)
          (reported_by-apart lp p.gathered fossils ∙ (ap (λ (ds : List Done). reported_by lp p.gathered ++ ds) (reported_other lp other) ∙ append-nil (reported_by lp p.gathered))) (process_other lp other) (system.sound.reported lp l)
    ]

    -- what travels in the parcels of the other nodes
    rest : List Signed
    rest = flat_map delivered_by (set p.parcels node None)

    new_travelling : (P : Signed → Type 0) → Every P (travelling p) → Every P w.out → Every P (travelling new)
    unfolding new
    new_travelling P old out =
        Every-append P (p.transit ++ w.out) (flat_map delivered_by (set p.parcels node None))
        (Every-append P p.transit w.out (Every-left P p.transit (flat_map delivered_by p.parcels) old) out)
        (Every-parcels-set P p.parcels node None tt (Every-right P p.transit (flat_map delivered_by p.parcels) old))

    gvt_kept : gvt end p ≤ gvt end new
    unfolding new
    gvt_kept =
        gvt_above end (gvt end p) new (gvt-le end p)
        (Every-set (λ (qs : List Process). Every (KeptFrom (gvt end p)) qs) p.nodes node (released_processes parcel.floor w) let_go.late (gvt_nodes end p))
        (new_travelling (SignedFrom (gvt end p)) (gvt_travelling end p) (Every-weaker (IsUnderWay m.lps (gvt end p)) (SignedFrom (gvt end p)) (λ s a. a.late) w.out worked.out))

    travels : (x : Message) (sign : Sign) → copies x (of_sign sign (travelling new)) + copies x (of_sign sign parcel.deliver) ≡ copies x (of_sign sign (travelling p)) + copies x (of_sign sign w.out)
    unfolding new
    travels x sign =
        let within = some_within p.parcels node parcel posted in
        let a = copies-parcels-set x sign p.parcels node None within in
        let b = ap (λ (o : Option Parcel). copies x (of_sign sign (delivered_by o))) posted in
        let none : copies x (of_sign sign []) ≡ 0 = nothing sign in
        omega (
          arith,
          copies-append_signed x sign (p.transit ++ w.out) (flat_map delivered_by (set p.parcels node None)),
          copies-append_signed x sign p.transit w.out,
          copies-append_signed x sign p.transit (flat_map delivered_by p.parcels),
        )
      where
        nothing : (sign : Sign) → copies x (of_sign sign []) ≡ 0
        nothing Plus = refl
        nothing Minus = refl

    sends : (x : Message) → copies x (all_sent new) + copies x (flat_map sent_by (node_of p node)) ≡ copies x (all_sent p) + copies x (flat_map sent_by w.processes)
    unfolding new
    sends x =
        let qs = released_processes parcel.floor w in
        let f = λ (qs : List Process). flat_map sent_by qs in
        omega (
          arith,
          copies-append x (reported_sends new.gathered) (flat_map sent_by (processes_of new)),
          copies-append x (reported_sends p.gathered) (flat_map sent_by (processes_of p)),
          copies-reported_sends x p.gathered (flat_map (λ (q : Process). fossils_of parcel.floor q) w.processes),
          sent-released x parcel.floor w.processes,
          copies-sent_nodes x (set p.nodes node qs),
          copies-sent_nodes x p.nodes,
          copies-flat_map-set (λ (qs : List Process). flat_map sent_by qs) x p.nodes node qs [] here,
        )

    -- the copies of a message that are reported, done and waiting, and its antimessages that wait
    held_now : (x : Message) → x.to < m.lps →
        copies x (reported_messages new.gathered) + copies x (messages (process_at new x.to).done) + copies x (process_at new x.to).waiting + copies x (process_at p x.to).antis + copies x (of_sign Minus parcel.deliver)
        ≡ copies x (reported_messages p.gathered) + copies x (messages (process_at p x.to).done) + copies x (process_at p x.to).waiting + copies x (process_at new x.to).antis + copies x (of_sign Plus parcel.deliver)
    unfolding new fossils
    held_now x l =
        let more = copies-reported_messages x p.gathered (flat_map (λ (q : Process). fossils_of parcel.floor q) w.processes) in
        let only = copies-reported_by x x.to (flat_map (λ (q : Process). fossils_of parcel.floor q) w.processes) refl in
        elim (cases_eq (x.to % nodes_of p) node) [
          | inl on ↦
              let q : Process = own (nodes_of p) w.processes x.to in
              let now = process_here x.to on ∙ own_released m (nodes_of p) node (get_or p.floors node 0) (gvt end p) (past_of p) w.processes parcel.floor x.to here worked.kept l on in
              let was : process_at p x.to ≡ own (nodes_of p) (node_of p node) x.to = ap (λ (k : ℕ). get_or (node_of p k) (x.to / nodes_of p) nobody) on in
              let a1 = ap (λ (r : Process). copies x (messages r.done)) now in
              let a2 = ap (λ (r : Process). copies x r.waiting) now in
              let a3 = ap (λ (r : Process). copies x r.antis) now in
              let b1 = ap (λ (r : Process). copies x (messages r.done)) was in
              let b2 = ap (λ (r : Process). copies x r.waiting) was in
              let b3 = ap (λ (r : Process). copies x r.antis) was in
              let reported = ap (λ (ds : List Done). copies x (reported_messages ds)) (reported_here x.to l on) in
              let split = (report_is_balanced x parcel.floor q).0 in
              let held = worked.held_is x l on in
              omega arith
          | inr other ↦
              let now = process_other x.to other in
              let a1 = ap (λ (r : Process). copies x (messages r.done)) now in
              let a2 = ap (λ (r : Process). copies x r.waiting) now in
              let a3 = ap (λ (r : Process). copies x r.antis) now in
              let reported = ap (λ (ds : List Done). copies x (reported_messages ds)) (reported_other x.to other) in
              let plus = not_delivered x Plus (nodes_of p) node parcel.deliver other fits.on_node in
              let minus = not_delivered x Minus (nodes_of p) node parcel.deliver other fits.on_node in
              omega arith
        ]

    new_balanced : IsBalanced m new
    unfolding new
    new_balanced x l =
        let old = system.sound.balanced x l in
        omega (arith, held_now x l, sends x, worked.sent_is x, travels x Plus, travels x Minus)

    fossils_ranged : Every (λ (d : Done). IsRanged d.message) fossils
    unfolding fossils
    fossils_ranged =
        Every-flat_map (λ (d : Done). IsRanged d.message) (λ (q : Process). fossils_of parcel.floor q) w.processes
        (Every-weaker HasRanged (λ (q : Process). Every (λ (d : Done). IsRanged d.message) (fossils_of parcel.floor q))
        (λ q a. Every-unmap IsRanged (λ (d : Done). d.message) (fossils_of parcel.floor q)
        (Every-from_members IsRanged (reported_messages (fossils_of parcel.floor q)) (λ x n. Every-member IsRanged (messages q.done) x a.done
        (let same = ap (copies x) (messages_of_reported (handled_before parcel.floor q.done) (state_before (handled_from parcel.floor q.done) q.state) (number_before (handled_from parcel.floor q.done) q.number)) in omega (arith, copies-handled_before-le parcel.floor x q.done)))))
        w.processes worked.kept.ranged)

    new_in_range : IsSystemInRange new
    unfolding new fossils
    new_in_range = (
      Every-map IsRanged (λ (d : Done). d.message) new.gathered
          (Every-append (λ (d : Done). IsRanged d.message) p.gathered (flat_map (λ (q : Process). fossils_of parcel.floor q) w.processes)
          (Every-unmap IsRanged (λ (d : Done). d.message) p.gathered system.sound.in_range.0) fossils_ranged),
      Every-set (λ (qs : List Process). Every IsProcessInRange qs) p.nodes node (released_processes parcel.floor w)
          (Every-weaker HasRanged IsProcessInRange (λ q a. (a.done, a.waiting, a.antis)) (released_processes parcel.floor w) let_go.ranged) system.sound.in_range.1,
      new_travelling (λ (s : Signed). IsRanged s.message) system.sound.in_range.2 (Every-weaker (IsUnderWay m.lps (gvt end p)) (λ (s : Signed). IsRanged s.message) (λ s a. a.ranged) w.out worked.out),
    )

    new_seated : IsSeatedBy m.lps new
    unfolding new fossils
    new_seated =
        let h = system.sound.seated in
        let qs = released_processes parcel.floor w in
        record {
          seats = λ k l. elim (cases_eq k node) [
            | inl e ↦
                ap length (ap (λ (j : ℕ). get_or (set p.nodes node qs) j []) e ∙ get_or-set_same p.nodes node qs [] here)
                ∙ let_go.size
                ∙ ap (λ (j : ℕ). length (own_lps (nodes_of p) j m.lps)) (sym e)
                ∙ ap (λ (n : ℕ). length (own_lps n k m.lps)) (sym (length-set p.nodes node qs))
            | inr e ↦
                ap length (get_or-set_other p.nodes node k qs [] e)
                ∙ h.seats k (let s = length-set p.nodes node qs in omega arith)
                ∙ ap (λ (n : ℕ). length (own_lps n k m.lps)) (sym (length-set p.nodes node qs))
          ];
          parcels = length-set p.parcels node None ∙ h.parcels ∙ sym (length-set p.nodes node qs);
          floors = length-set p.floors node parcel.floor ∙ h.floors ∙ sym (length-set p.nodes node qs);
          reported = Every-append (λ (d : Done). d.message.to < m.lps) p.gathered (flat_map (λ (q : Process). fossils_of parcel.floor q) w.processes) h.reported
              (Every-flat_map (λ (d : Done). d.message.to < m.lps) (λ (q : Process). fossils_of parcel.floor q) w.processes
              (Every-from_get_or (λ (q : Process). Every (λ (d : Done). d.message.to < m.lps) (fossils_of parcel.floor q)) w.processes nobody (λ i l.
              let at = own_fossils_at i l in
              let there : at.0 < m.lps = at.1 in
              Every-weaker (λ (d : Done). d.message.to ≡ at.0) (λ (d : Done). d.message.to < m.lps) (λ d e. omega arith) (fossils_of parcel.floor (get_or w.processes i nobody)) at.4)));
        }

    new_parcels : (k : ℕ) (other : Parcel) → get_or new.parcels k None ≡ Some other → IsParcel m (nodes_of new) k (get_or new.floors k 0) (gvt end new) other
    unfolding new
    new_parcels k other e = elim (cases_eq k node) [
      | inl same ↦
          let none : get_or (set p.parcels node None) k None ≡ None = ap (λ (i : ℕ). get_or (set p.parcels node None) i None) same ∙ get_or-set_same p.parcels node None None (some_within p.parcels node parcel posted) in
          absurd (none-some other (sym none ∙ e))
      | inr apart ↦
          let good = system.sound.parcels k other (sym (get_or-set_other p.parcels node k None None apart) ∙ e) in
          let from = good.from in
          let upto = good.upto in
          let more = gvt_kept in
          let was = get_or-set_other p.floors node k parcel.floor 0 apart in
          record {
            from = omega arith;
            upto = omega arith;
            there = good.there;
            on_node = subst (λ (n : ℕ). Every (λ (s : Signed). s.message.to % n ≡ k) other.deliver) (sym (length-set p.nodes node (released_processes parcel.floor w))) good.on_node;
          }
    ]

    new_sound : IsSoundSystem m end new
    unfolding new fossils
    new_sound =
        let h = system.sound in
        let more = gvt_kept in
        let from = fits.from in
        let upto = fits.upto in
        let start = front_under in
        record {
          front = h.front;
          some = (let a = h.some in let b = length-set p.nodes node (released_processes parcel.floor w) in omega arith);
          seated = new_seated;
          in_range = new_in_range;
          reported = new_reported;
          balanced = new_balanced;
          front_low = Every-set (λ (f : ℕ). p.front.time ≤ f) p.floors node parcel.floor (omega arith) h.front_low;
          floors_low = Every-set (λ (f : ℕ). f ≤ gvt end new) p.floors node parcel.floor (omega arith) (Every-weaker (λ (f : ℕ). f ≤ gvt end p) (λ (f : ℕ). f ≤ gvt end new) (λ f a. omega arith) p.floors h.floors_low);
          there = Every-append (λ (s : Signed). s.message.to < m.lps) p.transit w.out h.there (Every-weaker (IsUnderWay m.lps (gvt end p)) (λ (s : Signed). s.message.to < m.lps) (λ s a. a.there) w.out worked.out);
          parcels = new_parcels;
        }

pub sound_take : (m : Meaning) (end node : ℕ) (p p' : System) → IsSystem m end p → move m end (Take node) p ≡ Some p' → IsSoundSystem m end p' × (gvt end p ≤ gvt end p')
unfolding new
sound_take m end node p p' system e =
    let t = taken_from m end node p p' (get_or p.parcels node None) refl e in
    subst (λ (q : System). IsSoundSystem m end q × (gvt end p ≤ gvt end q)) t.is
    (new_sound m end node p system t.parcel t.posted t.work t.done, gvt_kept m end node p system t.parcel t.posted t.work t.done)
