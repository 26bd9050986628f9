-- The answer of a node is what the system state takes, and no other move changes a node.
use Rattle.std.proofs.Common.{◌≡◌, ℕ, ◌<◌, ◌∙◌, Option, Some, None, Ok, List, [], set, get_or, length, refl, sym, ap, ap₂, subst, arith, length-set, get_or-set_same, get_or-set_other}
use Rattle.std.proofs.lemmas.Bool.{cond_both}
use Rattle.std.proofs.lemmas.Option.{none-some, same_Some}
use Rattle.std.specs.Prelude.{false, nat_lt}
use Rattle.eventkey.proofs.Lists.{option_map-none}
use Rattle.model.specs.Meaning.{Meaning}
use Rattle.process.specs.Process.{Process}
use Rattle.node.specs.Handling.{Answer, Node, after, answer, answer_by}
use Rattle.node.specs.Node.{Work, released_processes, reply_of, work_here}
use Rattle.node.specs.declared.Parcel.{Parcel}
use Rattle.node.specs.declared.Reply.{Reply}
use Rattle.gvt.specs.Ledger.{least_floor}
use Rattle.gvt.proofs.Refusals.{parcels_are_accepted}
use Rattle.gvt.proofs.Takes.{here, taken_from}
use Rattle.gvt.specs.Laws.{MovesLeaveNodes, TakesAreAnswers}
use Rattle.gvt.specs.Moves.{Checkpoint, Commit, Post, Take, can_post, commit, system_after_answer, system_after_commit, system_after_post, take_from}
use Rattle.gvt.specs.System.{System, node_of, nodes_of}
use Rattle.gvt.specs.Sound.{IsSystem}
use Rattle.gvt.specs.Views.{node_view}

-- a node, with this number of nodes, this floor and these processes
abbrev node_with : Meaning → ℕ → ℕ → ℕ → ℕ → List Process → Node
node_with m end node nodes floor qs = record { node = node; nodes = nodes; lps = m.lps; end = end; floor = floor; spent = false; processes = qs }

module _ (m : Meaning) (end node : ℕ) (p : System) (parcel : Parcel) (w : Work) where
  many : nodes_of (system_after_answer node parcel p w) ≡ nodes_of p
  many = length-set p.nodes node (released_processes parcel.floor w)

  -- the node itself
  view_here : node < nodes_of p → node < length p.floors → node_view m end (system_after_answer node parcel p w) node ≡ after parcel.floor w (node_view m end p node)
  view_here there place =
      ap (λ (n : ℕ). node_with m end node n (get_or (set p.floors node parcel.floor) node 0) (get_or (set p.nodes node (released_processes parcel.floor w)) node [])) many
      ∙ ap₂ (λ (floor : ℕ) (qs : List Process). node_with m end node (nodes_of p) floor qs) (get_or-set_same p.floors node parcel.floor 0 place) (get_or-set_same p.nodes node (released_processes parcel.floor w) [] there)

  -- another node
  view_other : (k : ℕ) → (k ≡ node → ⊥) → node_view m end (system_after_answer node parcel p w) k ≡ node_view m end p k
  view_other k apart =
      ap (λ (n : ℕ). node_with m end k n (get_or (set p.floors node parcel.floor) k 0) (get_or (set p.nodes node (released_processes parcel.floor w)) k [])) many
      ∙ ap₂ (λ (floor : ℕ) (qs : List Process). node_with m end k (nodes_of p) floor qs) (get_or-set_other p.floors node k parcel.floor 0 apart) (get_or-set_other p.nodes node k (released_processes parcel.floor w) [] apart)

-- a node does not refuse its parcel
answer_is : (m : Meaning) (end node : ℕ) (p : System) (parcel : Parcel) → IsSystem m end p → get_or p.parcels node None ≡ Some parcel →
    answer m (node_view m end p node) parcel ≡ answer_by parcel.floor (node_view m end p node) (work_here m end (nodes_of p) parcel (node_of p node))
answer_is m end node p parcel system was =
    let accepts = parcels_are_accepted m end node p parcel system was in
    rw (answer, accepts) refl

abbrev answered_with : Reply → Node → Answer
answered_with reply n = record { result = Ok reply; node = n }

pub takes_are_answers : TakesAreAnswers
takes_are_answers m end node p parcel system was = record {
  made = λ p' e.
      let t = taken_from m end node p p' (get_or p.parcels node None) refl e in
      let same : t.parcel ≡ parcel = same_Some t.parcel parcel (sym t.posted ∙ was) in
      let done : work_here m end (nodes_of p) parcel (node_of p node) ≡ Some t.work = subst (λ (q : Parcel). work_here m end (nodes_of p) q (node_of p node) ≡ Some t.work) same t.done in
      let is : system_after_answer node parcel p t.work ≡ p' = subst (λ (q : Parcel). system_after_answer node q p t.work ≡ p') same t.is in
      let there = here m end node p system parcel was in
      let place : node < length p.floors = let f = system.sound.seated.floors in omega arith in (
        t.work,
        sym is,
        answer_is m end node p parcel system was
            ∙ ap (answer_by parcel.floor (node_view m end p node)) done
            ∙ ap (λ (n : Node). answered_with (reply_of parcel.floor t.work) n) (sym (view_here m end node p parcel t.work there place) ∙ ap (λ (q : System). node_view m end q node) is),
      );
  refused = λ e.
      let none : take_from m end node p (Some parcel) ≡ None = subst (λ (o : Option Parcel). take_from m end node p o ≡ None) was e in
      answer_is m end node p parcel system was
      ∙ ap (answer_by parcel.floor (node_view m end p node)) (option_map-none (system_after_answer node parcel p) (work_here m end (nodes_of p) parcel (node_of p node)) none);
}

pub moves_leave_nodes : MovesLeaveNodes
moves_leave_nodes m end node (Post other picks budget) p p' e apart =
    cond_both (can_post p other picks) (Some (system_after_post end other picks budget p)) None (λ (r : Option System). r ≡ Some p' → node_view m end p' node ≡ node_view m end p node)
    (λ _ f. ap (λ (q : System). node_view m end q node) (sym (same_Some (system_after_post end other picks budget p) p' f)))
    (λ _ f. absurd (none-some p' f)) e
moves_leave_nodes m end node (Take other) p p' e apart =
    let t = taken_from m end other p p' (get_or p.parcels other None) refl e in
    ap (λ (q : System). node_view m end q node) (sym t.is) ∙ view_other m end other p t.parcel t.work node (λ same. apart (ap Take (sym same)))
moves_leave_nodes m end node Commit p p' e apart =
    ap (λ (q : System). node_view m end q node) (sym (same_Some (system_after_commit m end p) p' e))
    ∙ cond_both (nat_lt p.front.time (least_floor end p.floors)) (commit m (least_floor end p.floors) p) p (λ (q : System). node_view m end q node ≡ node_view m end p node) (λ _. refl) (λ _. refl)
moves_leave_nodes m end node Checkpoint p p' e apart = ap (λ (q : System). node_view m end q node) (sym (same_Some p p' e))
