-- The parts of handling a parcel, put together.
use Rattle.std.proofs.Common.{◌≡◌, ℕ, List, [], ◌∷◌, ◌++◌, map, Option, Some, None, refl, sym, ◌∙◌, ap}
use Rattle.std.specs.Prelude.{flat_map}
use Rattle.eventkey.specs.Message.{Message}
use Rattle.eventkey.specs.declared.Signed.{Signed}
use Rattle.model.specs.Meaning.{Meaning}
use Rattle.process.specs.Process.{Process, release}
use Rattle.process.specs.declared.Done.{Done}
use Rattle.node.proofs.Deliveries.{node_at, working}
use Rattle.node.specs.Handling.{Node, after}
use Rattle.node.specs.Node.{deliver_here, first_time, low_of, reply_of, run_here}
use Rattle.node.specs.Roster.{IsWorked, Place}
use Rattle.node.specs.declared.Parcel.{Parcel}
use Rattle.node.specs.declared.Reply.{Reply}

-- a release does not change what waits
pub waits-released : (floor : ℕ) (qs : List Process) → flat_map (λ (q : Process). q.waiting ++ q.antis) (map (λ (q : Process). release floor q) qs) ≡ flat_map (λ (q : Process). q.waiting ++ q.antis) qs
waits-released floor [] = refl
waits-released floor (q ∷ qs) = ap (λ (xs : List Message). (q.waiting ++ q.antis) ++ xs) (waits-released floor qs)

abbrev replied : List Signed → Option ℕ → List Done → ℕ → Reply
replied out low fossils ran = record { out = out; low = low; fossils = fossils; ran = ran }

pub answered : (m : Meaning) (parcel : Parcel) (p p1 p2 : Place) (qs qs1 qs2 : List Process) (deliver out0 out1 out2 out : List Signed) (ran : ℕ) (low : Option ℕ) (fossils : List Done) (new : Node) →
    deliver ≡ parcel.deliver → out0 ≡ [] → p1 ≡ p → working qs1 out1 0 ≡ deliver_here p.nodes deliver (working qs out0 0) →
    p2 ≡ p1 → run_here m p1.end p1.nodes parcel.budget (working qs1 out1 0) ≡ Some (working qs2 out2 ran) →
    new ≡ after parcel.floor (working qs2 [] 0) (node_at p2 qs2) → out ≡ out2 → low ≡ low_of new.processes → fossils ≡ (reply_of parcel.floor (working qs2 [] 0)).fossils →
    IsWorked m parcel (node_at p qs) new (record { out = out; low = low; fossils = fossils; ran = ran })
answered m parcel p p1 p2 qs qs1 qs2 deliver out0 out1 out2 out ran low fossils new d empty same1 delivered same2 ran_is node_is out_is low_is fossils_is =
    let gone : List Done = (reply_of parcel.floor (working qs2 [] 0)).fossils in
    let start : working qs1 out1 0 ≡ deliver_here p.nodes parcel.deliver (working qs [] 0) =
    delivered ∙ ap (λ (ss : List Signed). deliver_here p.nodes ss (working qs out0 0)) d ∙ ap (λ (ss : List Signed). deliver_here p.nodes parcel.deliver (working qs ss 0)) empty in
    let lows : low ≡ low_of qs2 =
    low_is ∙ ap (λ (n : Node). low_of n.processes) node_is ∙ ap first_time (waits-released parcel.floor qs2) in
    record {
      work = working qs2 out2 ran;
      done =
          ap (run_here m p.end p.nodes parcel.budget) (sym start)
          ∙ ap (λ (k : Place). run_here m k.end k.nodes parcel.budget (working qs1 out1 0)) (sym same1)
          ∙ ran_is;
      reply_is = go out2 out (sym out_is) (low_of qs2) low (sym lows) gone fossils (sym fossils_is);
      node_is = node_is ∙ ap (λ (k : Place). after parcel.floor (working qs2 out2 ran) (node_at k qs2)) (same2 ∙ same1);
    }
  where
    go : (o o' : List Signed) → o ≡ o' → (l l' : Option ℕ) → l ≡ l' → (f f' : List Done) → f ≡ f' → replied o' l' f' ran ≡ replied o l f ran
    go o o' e l l' g f f' h =
        ap (λ (x : List Signed). replied x l' f' ran) (sym e) ∙ ap (λ (x : Option ℕ). replied o x f' ran) (sym g) ∙ ap (λ (x : List Done). replied o l x ran) (sym h)

-- a parcel that delivers nothing does not change the first turn
pub limited_then : (m : Meaning) (p p1 : Place) (requested deliver : List Signed) (qs qs1 : List Process) (out0 out1 : List Signed) → deliver ≡ requested → out0 ≡ [] → p1 ≡ p → working qs1 out1 0 ≡ deliver_here p.nodes deliver (working qs out0 0) →
    requested ≡ [] → run_here m p.end p.nodes 1 (working qs [] 0) ≡ None → run_here m p1.end p1.nodes 1 (working qs1 out1 0) ≡ None
limited_then m p p1 requested deliver qs qs1 out0 out1 d e same done empty none =
    ap (λ (k : Place). run_here m k.end k.nodes 1 (working qs1 out1 0)) same
    ∙ ap (run_here m p.end p.nodes 1) (done ∙ ap (λ (ss : List Signed). deliver_here p.nodes ss (working qs out0 0)) (d ∙ empty) ∙ ap (λ (ss : List Signed). working qs ss 0) e)
    ∙ none
