-- The reply of a node to a parcel of a sound system state names only processes that exist.
use Rattle.std.specs.List.{AllByRecursion as Every, list_all}
use Rattle.std.specs.Prelude.{◌&&◌}
use Rattle.std.proofs.Common.{◌≡◌, ℕ, ◌<◌, ◌%◌, ◌++◌, ◌∙◌, List, [], ◌∷◌, Bool, true, flat_map, get_or, length, nat_lt, None, Some, refl, ap, ap₂, sym, subst, arith, eq-eqb}
use Rattle.std.proofs.lemmas.Bool.{lt-ltb}
use Rattle.std.proofs.lemmas.List.{map-append}
use Rattle.eventkey.proofs.Lists.{Every-both, Every-flat_map, Every-get_or, Every-left, Every-append, Every-right, Every-unmap, Every-weaker}
use Rattle.eventkey.proofs.Times.{Every-from_get_or}
use Rattle.eventkey.specs.Message.{IsRanged, Message}
use Rattle.eventkey.specs.declared.Signed.{Signed}
use Rattle.model.specs.Meaning.{IsLawful, IsWords, Meaning}
use Rattle.model.specs.World.{number_of, state_of}
use Rattle.queues.specs.Record.{handled_before, handled_from, messages, number_before, state_before}
use Rattle.process.proofs.Arrivals.{IsLater, stamp_later}
use Rattle.process.proofs.HandlingLaws.{handled_before-from}
use Rattle.process.proofs.Histories.{reported_messages as messages_of_reported}
use Rattle.process.specs.Process.{Process, fossils_of, nobody}
use Rattle.process.specs.Consistent.{AreConsistent}
use Rattle.process.specs.declared.Done.{Done}
use Rattle.node.specs.Kept.{HasRanged, IsUnderWay, own}
use Rattle.node.specs.Node.{Work, work_here}
use Rattle.node.specs.declared.Parcel.{Parcel}
use Rattle.gvt.proofs.Takes.{let_go, own_fossils_at, past_known, worked}
use Rattle.gvt.specs.Laws.{RepliesNameWhatIsThere}
use Rattle.gvt.specs.System.{System, gvt, node_of, nodes_of, reported_by}
use Rattle.gvt.specs.Replies.{is_reported_there}
use Rattle.gvt.specs.Sound.{IsSystem}

module _ {X : Type 0} (test : X → Bool) (P : X → Type 0) (passes : (x : X) → P x → test x ≡ true) where
  all_pass : (xs : List X) → Every P xs → list_all test xs ≡ true
  all_pass [] h = refl
  all_pass (x ∷ xs) h = ap₂ (λ (a b : Bool). a && b) (passes x h.0) (all_pass xs h.1)

-- the sends of a reported handling are for processes that exist
abbrev SentThere : ℕ → Done → Type 0
SentThere lps d = Every (λ (x : Message). x.to < lps) d.sent

module _ (m : Meaning) (lp : ℕ) (law : IsLawful m) (there : lp < m.lps) where
  sent_there : (ds : List Done) (state : List ℕ) (number : ℕ) → IsWords state → Every (λ (d : Done). IsRanged d.message) ds →
      AreConsistent m lp state number ds → Every (SentThere m.lps) ds
  sent_there [] state number words ranged f = tt
  sent_there (d ∷ ds) state number words ranged f = (
    Every-weaker (IsLater m.lps d.message.time) (λ (x : Message). x.to < m.lps) (λ x later. later.1) d.sent
        (rw f.0 (stamp_later m.lps lp d.message.time number (m.sends lp state d.message) (law.each lp state d.message there words ranged.0))),
    sent_there ds d.after d.number_after (rw f.1 (law.words lp state d.message there words ranged.0)) ranged.1 f.4,
  )

-- the reported messages are in range, since they are among the done ones
fossils_ranged : (floor : ℕ) (q : Process) → Every IsRanged (messages q.done) → Every (λ (d : Done). IsRanged d.message) (fossils_of floor q)
fossils_ranged floor q h =
    let before = handled_before floor q.done in
    let from = handled_from floor q.done in
    let split : messages before ++ messages from ≡ messages q.done = sym (map-append (λ h. h.message) before from) ∙ ap messages (handled_before-from floor q.done) in
    let all : Every IsRanged (messages before ++ messages from) = subst (Every IsRanged) (sym split) h in
    Every-unmap IsRanged (λ (d : Done). d.message) (fossils_of floor q)
    (subst (Every IsRanged) (sym (messages_of_reported before (state_before from q.state) (number_before from q.number))) (Every-left IsRanged (messages before) (messages from) all))

-- the conditions on a report in a reply
record IsThere (lps nodes node : ℕ) (d : Done) : Type 0 where
  to : d.message.to < lps
  on : d.message.to % nodes ≡ node
  sent : SentThere lps d

reported_passes : (lps nodes node : ℕ) (d : Done) → IsThere lps nodes node d → is_reported_there lps nodes node d ≡ true
reported_passes lps nodes node d h =
    rw (lt-ltb d.message.to lps h.to, eq-eqb (d.message.to % nodes) node h.on)
    (all_pass (λ (x : Message). nat_lt x.to lps) (λ (x : Message). x.to < lps) (λ x l. lt-ltb x.to lps l) d.sent h.sent)

module _ (m : Meaning) (end node : ℕ) (p : System) (system : IsSystem m end p) (parcel : Parcel) (posted : get_or p.parcels node None ≡ Some parcel)
    (w : Work) (done : work_here m end (nodes_of p) parcel (node_of p node) ≡ Some w) where
  -- the reports of one process
  there_at : (i : ℕ) → i < length w.processes → Every (IsThere m.lps (nodes_of p) node) (fossils_of parcel.floor (get_or w.processes i nobody))
  there_at i l =
      let at = own_fossils_at m end node p system parcel posted w done i l in
      let lp : ℕ = at.0 in
      let q : Process = get_or w.processes i nobody in
      let ranged : HasRanged q = Every-get_or HasRanged w.processes i nobody l (worked m end node p system parcel posted w done).kept.ranged in
      let past = past_known m end p system in
      let same : own (nodes_of p) w.processes lp ≡ q = ap (λ (j : ℕ). get_or w.processes j nobody) at.3 in
      let fold = ((let_go m end node p system parcel posted w done).reported lp at.1 at.2).consistent_fold in
      let fold' : AreConsistent m lp (state_of p.front lp) (number_of p.front lp) (reported_by lp p.gathered ++ fossils_of parcel.floor q) =
      subst (λ (r : Process). AreConsistent m lp (state_of p.front lp) (number_of p.front lp) (reported_by lp p.gathered ++ fossils_of parcel.floor r)) same fold in
      let sent : Every (SentThere m.lps) (fossils_of parcel.floor q) =
      Every-right (SentThere m.lps) (reported_by lp p.gathered) (fossils_of parcel.floor q)
      (sent_there m lp system.lawful at.1 (reported_by lp p.gathered ++ fossils_of parcel.floor q) (state_of p.front lp) (number_of p.front lp) (past.words lp at.1)
      (Every-append (λ (d : Done). IsRanged d.message) (reported_by lp p.gathered) (fossils_of parcel.floor q) (past.reported lp at.1) (fossils_ranged parcel.floor q ranged.done)) fold') in
      Every-both (λ (d : Done). d.message.to ≡ lp) (SentThere m.lps) (IsThere m.lps (nodes_of p) node)
      (λ d e s. record { to = (let a = at.1 in omega arith); on = ap (λ (k : ℕ). k % nodes_of p) e ∙ at.2; sent = s })
      (fossils_of parcel.floor q) at.4 sent

  all_there : Every (IsThere m.lps (nodes_of p) node) (flat_map (λ (q : Process). fossils_of parcel.floor q) w.processes)
  all_there =
      Every-flat_map (IsThere m.lps (nodes_of p) node) (λ (q : Process). fossils_of parcel.floor q) w.processes
      (Every-from_get_or (λ (q : Process). Every (IsThere m.lps (nodes_of p) node) (fossils_of parcel.floor q)) w.processes nobody there_at)

pub replies_name_what_is_there : RepliesNameWhatIsThere
replies_name_what_is_there m end node p parcel w system posted done =
    ap₂ (λ (a b : Bool). a && b)
    (all_pass (λ (s : Signed). nat_lt s.message.to m.lps) (IsUnderWay m.lps (gvt end p)) (λ s way. lt-ltb s.message.to m.lps way.there) w.out (worked m end node p system parcel posted w done).out)
    (all_pass (is_reported_there m.lps (nodes_of p) node) (IsThere m.lps (nodes_of p) node) (λ d h. reported_passes m.lps (nodes_of p) node d h)
    (flat_map (λ (q : Process). fossils_of parcel.floor q) w.processes) (all_there m end node p system parcel posted w done))
