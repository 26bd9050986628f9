-- One delivery at its process, and all of them, one after another.
use Rattle.std.proofs.Common.{◌≡◌, ℕ, ◌+◌, ◌/◌, ◌%◌, ◌<◌, ◌≤◌, true, false, List, [], ◌∷◌, ◌++◌, length, get_or, set, drop, Option, Some, None, refl, sym, subst, ◌∙◌, ap, cond, inl, inr}
use Rattle.std.specs.Prelude.{nat_lt}
use Rattle.std.proofs.lemmas.Bool.{and_parts, cases_Bool, cond-true, cond-false, eqb-true, ltb-false, ltb-true}
use Rattle.std.proofs.lemmas.List.{map-set}
use Rattle.eventkey.proofs.Lists.{drop_here}
use Rattle.eventkey.specs.Message.{Message}
use Rattle.eventkey.specs.declared.Signed.{Signed}
use Rattle.process.specs.Process.{Process, arrive, nobody, cancelled_sends}
use Rattle.node.proofs.Owns.{arrive_done, arrive_waiting}
use Rattle.node.proofs.Seats.{IsAt, picked, staffed_again}
use Rattle.node.specs.Fault.{fault_of}
use Rattle.node.specs.Handling.{Node, first_fault, is_own}
use Rattle.process.specs.View.{ProcessView}
use Rattle.node.specs.Seats.{represented_of}
use Rattle.node.specs.declared.summary.Summary.{Summary}
use Rattle.node.specs.Node.{Work, deliver_here, deliver_one_here, sits_on}
use Rattle.node.specs.Roster.{IsSeated, IsStaffed, Place, processes_of}
use Rattle.node.specs.declared.NodeFault.{NodeFault}
use Rattle.node.specs.declared.NodeFault.TheVariants as node
use Rattle.process.specs.declared.ProcessFault.{ProcessFault}
use Rattle.process.specs.declared.ProcessFault.TheVariants.{BelowFloor, NoMemory, NotMine, NumberLimit, Spent}

pub own_parts : (n : Node) (lp : ℕ) → is_own n lp ≡ true → (lp % n.nodes ≡ n.node) × (lp < n.lps)
own_parts n lp e =
    let parts = and_parts (sits_on n.nodes n.node lp) (nat_lt lp n.lps) e in
    (eqb-true (lp % n.nodes) n.node parts.0, ltb-true lp n.lps parts.1)

-- a process that refuses its own message, not before its floor, has met an allocation failure
pub memory_left : (fault : ProcessFault) → (fault ≡ NotMine → ⊥) → (fault ≡ BelowFloor → ⊥) → (fault ≡ NumberLimit → ⊥) → (fault ≡ Spent → ⊥) → fault_of fault ≡ node.NoMemory
memory_left NotMine a b c d = absurd (a refl)
memory_left BelowFloor a b c d = absurd (b refl)
memory_left NoMemory a b c d = refl
memory_left NumberLimit a b c d = absurd (c refl)
memory_left Spent a b c d = absurd (d refl)

-- the process after a delivery
abbrev pub delivered_to : Signed → ProcessView → ProcessView
delivered_to s q = record { lp = q.lp; floor = q.floor; spent = q.spent; process = arrive s q.process }

seated_delivered : (floor : ℕ) (s : Signed) (q : ProcessView) → s.message.to ≡ q.lp → IsSeated floor q → IsSeated floor (delivered_to s q)
seated_delivered floor s q own h = record {
  from_floor = h.from_floor;
  unspent = h.unspent;
  own_done = arrive_done (λ (x : Message). x.to ≡ q.lp) s q.process h.own_done;
  own_waiting = arrive_waiting (λ (x : Message). x.to ≡ q.lp) s q.process own h.own_done h.own_waiting;
}

pub delivered_ready : (p : Place) (seats : List ProcessView) (summaries : List Summary) (s : Signed) (q r : ProcessView) (summary : Summary) → IsStaffed p seats summaries → IsAt p seats s.message.to q →
    q ≡ get_or seats (s.message.to / p.nodes) q → r ≡ delivered_to s q → summary ≡ represented_of p.end r → IsStaffed p (set seats (s.message.to / p.nodes) r) (set summaries (s.message.to / p.nodes) summary)
delivered_ready p seats summaries s q r summary h at read is known =
    staffed_again p seats summaries (s.message.to / p.nodes) q r summary h read (ap (λ (v : ProcessView). v.lp) is) (subst (IsSeated p.floor) (sym is) (seated_delivered p.floor s q (sym at.lp_is) at.seated)) known

abbrev pub working : List Process → List Signed → ℕ → Work
working processes out ran = record { processes = processes; out = out; ran = ran }

pub delivered_work : (p : Place) (seats : List ProcessView) (s : Signed) (q r : ProcessView) (out out' : List Signed) (ran : ℕ) → IsAt p seats s.message.to q → r ≡ delivered_to s q → out' ≡ out ++ cancelled_sends s q.process →
    working (processes_of (set seats (s.message.to / p.nodes) r)) out' ran ≡ deliver_one_here p.nodes s (working (processes_of seats) out ran)
delivered_work p seats s q r out out' ran at is sent =
    let i : ℕ = s.message.to / p.nodes in
    let qs : List Process = processes_of seats in
    ap (λ (xs : List Process). working xs out' ran)
    (map-set (λ (v : ProcessView). v.process) seats i r
    ∙ ap (λ (v : ProcessView). set qs i v.process) is
    ∙ ap (λ (v : Process). set qs i (arrive s v)) (sym at.here))
    ∙ ap (λ (xs : List Signed). working (set qs i (arrive s (get_or qs i nobody))) xs ran) (sent ∙ ap (λ (v : Process). out ++ cancelled_sends s v) (sym at.here))

-- A node that accepts all deliveries accepts each of them.
pub record IsAccepted (n : Node) (s : Signed) (rest : List Signed) : Type 0 where
  pub own : is_own n s.message.to ≡ true
  pub late : n.floor ≤ s.message.time
  pub rest_is : first_fault n rest ≡ None

pub some-none : {X : Type 0} (x : X) → Some x ≡ None → ⊥
some-none x e = cc

pub accepted : (n : Node) (s : Signed) (rest : List Signed) → first_fault n (s ∷ rest) ≡ None → IsAccepted n s rest
accepted n s rest e =
    let other : Option NodeFault = cond (nat_lt s.message.time n.floor) (Some node.BelowFloor) (first_fault n rest) in
    elim (cases_Bool (is_own n s.message.to)) [
      | inl own ↦ (let now : other ≡ None = sym (cond-true (is_own n s.message.to) other (Some node.NotMine) own) ∙ e in
          elim (cases_Bool (nat_lt s.message.time n.floor)) [
            | inl early ↦ absurd (some-none node.BelowFloor (sym (cond-true (nat_lt s.message.time n.floor) (Some node.BelowFloor) (first_fault n rest) early) ∙ now))
            | inr late ↦ record {
              own = own;
              late = ltb-false s.message.time n.floor late;
              rest_is = sym (cond-false (nat_lt s.message.time n.floor) (Some node.BelowFloor) (first_fault n rest) late) ∙ now;
            }
          ])
      | inr other' ↦ absurd (some-none node.NotMine (sym (cond-false (is_own n s.message.to) other (Some node.NotMine) other') ∙ e))
    ]

-- The facts before a delivery: the process at the place of the receiver is the receiver
pub record IsPicked (p : Place) (seats : List ProcessView) (summaries : List Summary) (s : Signed) (lp : ℕ) (q : ProcessView) : Type 0 where
  pub lp_is : lp ≡ s.message.to
  pub staffed : IsStaffed p seats summaries
  pub node : s.message.to % p.nodes ≡ p.node
  pub there : s.message.to < p.lps
  pub read : q ≡ get_or seats (lp / p.nodes) q

picked_at : (p : Place) (seats : List ProcessView) (summaries : List Summary) (s : Signed) (lp : ℕ) (q : ProcessView) → IsPicked p seats summaries s lp q → q ≡ get_or seats (s.message.to / p.nodes) q
picked_at p seats summaries s lp q h = subst (λ k. q ≡ get_or seats (k / p.nodes) q) h.lp_is h.read

pub at_of : (p : Place) (seats : List ProcessView) (summaries : List Summary) (s : Signed) (lp : ℕ) (q : ProcessView) → IsPicked p seats summaries s lp q → IsAt p seats s.message.to q
at_of p seats summaries s lp q h = picked p seats summaries s.message.to q h.staffed h.node h.there (picked_at p seats summaries s lp q h)

pub deliver_ready : (p : Place) (seats : List ProcessView) (summaries : List Summary) (s : Signed) (lp : ℕ) (q r : ProcessView) (summary : Summary) → IsPicked p seats summaries s lp q →
    r ≡ delivered_to s q → summary ≡ represented_of p.end r → IsStaffed p (set seats (lp / p.nodes) r) (set summaries (lp / p.nodes) summary)
deliver_ready p seats summaries s lp q r summary h is known =
    subst (λ k. IsStaffed p (set seats (k / p.nodes) r) (set summaries (k / p.nodes) summary)) (sym h.lp_is)
    (delivered_ready p seats summaries s q r summary h.staffed (at_of p seats summaries s lp q h) (picked_at p seats summaries s lp q h) is known)

pub deliver_work : (p : Place) (seats : List ProcessView) (summaries : List Summary) (s : Signed) (lp : ℕ) (q r : ProcessView) (out out' : List Signed) (ran : ℕ) → IsPicked p seats summaries s lp q →
    r ≡ delivered_to s q → out' ≡ out ++ cancelled_sends s q.process → working (processes_of (set seats (lp / p.nodes) r)) out' ran ≡ deliver_one_here p.nodes s (working (processes_of seats) out ran)
deliver_work p seats summaries s lp q r out out' ran h is sent =
    ap (λ k. working (processes_of (set seats (k / p.nodes) r)) out' ran) h.lp_is
    ∙ delivered_work p seats s q r out out' ran (at_of p seats summaries s lp q h) is sent

-- All deliveries: those done, and those left

abbrev pub node_at : Place → List Process → Node
node_at p qs = record { node = p.node; nodes = p.nodes; lps = p.lps; end = p.end; floor = p.floor; spent = false; processes = qs }

first_fault-processes : (p : Place) (qs rs : List Process) (ss : List Signed) → first_fault (node_at p qs) ss ≡ first_fault (node_at p rs) ss
first_fault-processes p qs rs [] = refl
first_fault-processes p qs rs (s ∷ ss) =
    ap (λ (rest : Option NodeFault). cond (is_own (node_at p qs) s.message.to) (cond (nat_lt s.message.time p.floor) (Some node.BelowFloor) rest) (Some node.NotMine)) (first_fault-processes p qs rs ss)

pub first_fault-place : (p p' : Place) (qs rs : List Process) (ss : List Signed) → p' ≡ p → first_fault (node_at p qs) ss ≡ None → first_fault (node_at p' rs) ss ≡ None
first_fault-place p p' qs rs ss same h = ap (λ (k : Place). first_fault (node_at k rs) ss) same ∙ first_fault-processes p rs qs ss ∙ h

pub deliveries_go_on : (nodes nodes' : ℕ) (ss : List Signed) (i : ℕ) (s : Signed) (w w' total : Work) → i < length ss → s ≡ get_or ss i s → nodes' ≡ nodes → w' ≡ deliver_one_here nodes' s w →
    deliver_here nodes (drop i ss) w ≡ total → deliver_here nodes (drop (i + 1) ss) w' ≡ total
deliveries_go_on nodes nodes' ss i s w w' total l is same one so_far =
    ap (deliver_here nodes (drop (i + 1) ss)) (one ∙ ap (λ n. deliver_one_here n s w) same)
    ∙ sym (ap (λ (rest : List Signed). deliver_here nodes rest w) (drop_here ss i s l is))
    ∙ so_far

pub still_accepted : (p p' : Place) (qs rs : List Process) (ss : List Signed) (i : ℕ) (s : Signed) → i < length ss → s ≡ get_or ss i s → p' ≡ p → first_fault (node_at p qs) (drop i ss) ≡ None → first_fault (node_at p' rs) (drop (i + 1) ss) ≡ None
still_accepted p p' qs rs ss i s l is same h =
    let here : first_fault (node_at p qs) (s ∷ drop (i + 1) ss) ≡ None = sym (ap (first_fault (node_at p qs)) (drop_here ss i s l is)) ∙ h in
    first_fault-place p p' qs rs (drop (i + 1) ss) same (accepted (node_at p qs) s (drop (i + 1) ss) here).rest_is
