-- A move is made exactly if it is not refused, and a node accepts every parcel posted to it.
use Rattle.std.specs.Prelude.{is_some, not, ◌&&◌}
use Rattle.std.proofs.Common.{◌≡◌, ℕ, zero, suc, ◌≤◌, ◌<◌, ◌%◌, Bool, true, false, cond, List, [], ◌∷◌, get_or, length, Option, None, Some, option_map, nat_lt, inl, inr, refl, arith, eq-eqb}
use Rattle.std.specs.List.{AllByRecursion as Every}
use Rattle.std.proofs.lemmas.Bool.{cases_lt, lt-ltb, le-ltb}
use Rattle.std.proofs.lemmas.List.{get_or_past}
use Rattle.eventkey.specs.declared.Signed.{Signed}
use Rattle.eventkey.proofs.Lists.{Every-both}
use Rattle.model.specs.Meaning.{Meaning}
use Rattle.node.specs.Handling.{Node, first_fault}
use Rattle.node.specs.Kept.{IsUnderWay}
use Rattle.node.specs.Node.{Work, work_here}
use Rattle.node.specs.declared.Parcel.{Parcel}
use Rattle.gvt.specs.Picks.{are_distinct, can_pick}
use Rattle.gvt.specs.System.{System, gvt, node_of, nodes_of}
use Rattle.gvt.specs.Moves.{Busy, Checkpoint, Commit, NoSuchNode, NoSuchPick, NumberLimit, Post, Take, is_busy, system_after_answer, take_from, take_refusal}
use Rattle.gvt.specs.Laws.{MovesAreMadeOrRefused, ParcelsAreAccepted}
use Rattle.gvt.specs.Views.{node_view}
use Rattle.gvt.proofs.Takes.{fits, floor_under, under_way}

-- 1. Made or refused

post_tested : (there busy picks distinct : Bool) (x : System) →
    is_some (cond ((there && not busy) && (picks && distinct)) (Some x) None)
    ≡ not (is_some (cond (not there) (Some NoSuchNode) (cond busy (Some Busy) (cond (picks && distinct) None (Some NoSuchPick)))))
post_tested false busy picks distinct x = refl
post_tested true true picks distinct x = refl
post_tested true false false distinct x = refl
post_tested true false true false x = refl
post_tested true false true true x = refl

take_tested : (m : Meaning) (end node : ℕ) (p : System) (o : Option Parcel) → is_some (take_from m end node p o) ≡ not (is_some (take_refusal m end node p o))
take_tested m end node p None = refl
take_tested m end node p (Some parcel) = go (work_here m end (nodes_of p) parcel (node_of p node))
  where
    go : (o : Option Work) → is_some (option_map (λ (w : Work). system_after_answer node parcel p w) o) ≡ not (is_some (cond (is_some o) None (Some NumberLimit)))
    go None = refl
    go (Some w) = refl

pub made_or_refused : MovesAreMadeOrRefused
made_or_refused m end (Post node picks budget) p h = post_tested (nat_lt node (nodes_of p)) (is_busy p node) (can_pick (nodes_of p) node p.transit picks) (are_distinct picks) _
made_or_refused m end (Take node) p h = elim (cases_lt node (nodes_of p)) [
  | inl there ↦ rw (lt-ltb node (nodes_of p) there) (take_tested m end node p (get_or p.parcels node None))
  | inr past ↦
      let none : get_or p.parcels node None ≡ None = let s = h.sound.seated.parcels in get_or_past p.parcels node None (omega arith) in
      rw (le-ltb node (nodes_of p) past, none) refl
]
made_or_refused m end Commit p h = refl
made_or_refused m end Checkpoint p h = refl

-- 2. The parcels that a node accepts

-- a message that can be delivered to the node
record IsHandy (n : Node) (s : Signed) : Type 0 where
  there : s.message.to < n.lps
  on : s.message.to % n.nodes ≡ n.node
  late : n.floor ≤ s.message.time

no_fault : (n : Node) (ss : List Signed) → Every (IsHandy n) ss → first_fault n ss ≡ None
no_fault n [] h = refl
no_fault n (s ∷ ss) h =
    rw (eq-eqb (s.message.to % n.nodes) n.node h.0.on, lt-ltb s.message.to n.lps h.0.there, le-ltb s.message.time n.floor h.0.late) (no_fault n ss h.1)

pub parcels_are_accepted : ParcelsAreAccepted
parcels_are_accepted m end node p parcel system posted =
    let good = fits m end node p system parcel posted in
    let low = floor_under m end node p system parcel posted in
    let all : Every (IsHandy (node_view m end p node)) parcel.deliver =
    Every-both (IsUnderWay m.lps (gvt end p)) (λ (s : Signed). s.message.to % nodes_of p ≡ node) (IsHandy (node_view m end p node))
    (λ s a b. record { there = a.there; on = b; late = (let c = a.late in omega arith) }) parcel.deliver (under_way m end node p system parcel posted) good.on_node in
    rw (le-ltb parcel.floor (get_or p.floors node 0) good.from) (no_fault (node_view m end p node) parcel.deliver all)
