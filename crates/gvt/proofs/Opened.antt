-- The system state with which a session opens is sound, and its nodes are those of their loads.
use Rattle.std.proofs.Common.{◌^◌, ◌≡◌, ℕ, zero, suc, ◌<◌, ◌/◌, ◌%◌, ◌≤◌, [], ◌∷◌, ◌++◌, false, sym, ◌∙◌, subst, arith, get_or, flat_map, replicate, refl, Ok, Some, None, List, map, filter, ◌==◌, ap, length, mod-lt, eq-eqb}
use Rattle.std.proofs.lemmas.List.{append-nil, length-replicate, get_or-replicate, length-map, get_or-map}
use Rattle.std.proofs.lemmas.Option.{none-some}
use Rattle.std.specs.List.{AllByRecursion as Every}
use Rattle.eventkey.proofs.Lists.{Every-all, Every-append, Every-filter, Every-get_or-default, Every-map, Every-passes, Every-replicate, Every-weaker, IsAscending-filter, copies-filter}
use Rattle.eventkey.proofs.Times.{IsFrom}
use Rattle.eventkey.specs.Bag.{add_all, copies}
use Rattle.eventkey.specs.Message.{IsAtMost, IsRanged, Message}
use Rattle.eventkey.specs.Signed.{of_sign}
use Rattle.eventkey.specs.declared.Sign.TheVariants.{Minus, Plus}
use Rattle.eventkey.specs.declared.Signed.{Signed}
use Rattle.model.proofs.Steps.{IsUpto_IsReached}
use Rattle.model.proofs.Worlds.{get_or-below, length-below, words_at}
use Rattle.model.specs.Meaning.{IsAddressed, Meaning}
use Rattle.model.specs.World.{IsUpto, World, below, number_of, state_of}
use Rattle.queues.proofs.Moves.{add_all-ascending}
use Rattle.queues.specs.Record.{messages}
use Rattle.process.specs.Process.{Process, nobody, sent_by}
use Rattle.process.specs.Consistent.{IsConsistentProcess}
use Rattle.process.specs.View.{loaded}
use Rattle.node.proofs.Loads.{not_refused}
use Rattle.node.proofs.Seats.{own_place}
use Rattle.node.specs.Handling.{IsInRange as IsPartInRange, Node, load_answer, load_refusal, loaded_node, own_lps}
use Rattle.node.specs.declared.Load.{Load}
use Rattle.node.specs.declared.Parcel.{Parcel}
use Rattle.node.specs.declared.Part.{Part}
use Rattle.gvt.specs.Ledger.{delivered_by}
use Rattle.gvt.proofs.Gvt.{KeptFrom, SignedFrom, gvt_above}
use Rattle.gvt.specs.System.{IsBalanced, IsSystemInRange, IsProcessInRange, IsSeatedBy, System, floor_at, gvt, node_of, nodes_of, opened, opened_process, process_at}
use Rattle.gvt.specs.Sound.{CanOpen, IsOpening, IsSoundSystem}
use Rattle.gvt.specs.Laws.{IsLoadedWith, OpenedNodes, OpeningIsSound}
use Rattle.gvt.specs.Views.{load_of, node_view, part_of}

-- 1. Lists

nothing_delivered : (n : ℕ) → flat_map delivered_by (replicate n None) ≡ []
nothing_delivered zero = refl
nothing_delivered (suc n) = nothing_delivered n

no_parcel : (n i : ℕ) (parcel : Parcel) → get_or (replicate n None) i None ≡ Some parcel → ⊥
no_parcel zero i parcel e = none-some parcel e
no_parcel (suc n) zero parcel e = none-some parcel e
no_parcel (suc n) (suc i) parcel e = no_parcel n i parcel e

-- 2. The processes

-- the processes of a node
abbrev node_opened : ℕ → ℕ → World → ℕ → List Process
node_opened lps nodes w node = map (opened_process w) (own_lps nodes node lps)

nothing_sent_at : (w : World) (lps : List ℕ) (rest : List Process) → flat_map sent_by rest ≡ [] → flat_map sent_by (map (opened_process w) lps ++ rest) ≡ []
nothing_sent_at w [] rest e = e
nothing_sent_at w (lp ∷ lps) rest e = nothing_sent_at w lps rest e

nothing_sent : (lps nodes : ℕ) (w : World) (ks : List ℕ) → flat_map sent_by (flat_map (λ (qs : List Process). qs) (map (node_opened lps nodes w) ks)) ≡ []
nothing_sent lps nodes w [] = refl
nothing_sent lps nodes w (k ∷ ks) = nothing_sent_at w (own_lps nodes k lps) (flat_map (λ (qs : List Process). qs) (map (node_opened lps nodes w) ks)) (nothing_sent lps nodes w ks)

module _ (m : Meaning) (end nodes : ℕ) (w : World) (can : CanOpen m end nodes w) where
  abbrev first : System
  first = opened m.lps nodes w

  pub many : nodes_of first ≡ nodes
  many = length-map (below nodes) (node_opened m.lps nodes w) ∙ length-below nodes

  pub node_is : (node : ℕ) → node < nodes → node_of first node ≡ node_opened m.lps nodes w node
  node_is node l =
      get_or-map (node_opened m.lps nodes w) (below nodes) node 0 [] (let e = length-below nodes in omega arith)
      ∙ ap (node_opened m.lps nodes w) (get_or-below nodes node 0 l)

  process_is : (lp : ℕ) → lp < m.lps → process_at first lp ≡ opened_process w lp
  process_is lp l =
      let node : ℕ = lp % nodes in
      let small : node < nodes = mod-lt lp can.some in
      let place = own_place nodes node small m.lps lp refl l in
      ap (λ (n : ℕ). get_or (node_of first (lp % n)) (lp / n) nobody) many
      ∙ ap (λ (qs : List Process). get_or qs (lp / nodes) nobody) (node_is node small)
      ∙ get_or-map (opened_process w) (own_lps nodes node m.lps) (lp / nodes) 0 nobody place.0
      ∙ ap (opened_process w) place.1

  floor_is : (lp : ℕ) → floor_at first lp ≡ w.time
  floor_is lp = ap (λ (n : ℕ). get_or (replicate nodes w.time) (lp % n) 0) many ∙ get_or-replicate nodes (lp % nodes) w.time 0 (mod-lt lp can.some)

  process_reported : (lp : ℕ) → IsConsistentProcess m lp w.time (state_of w lp) (number_of w lp) w.time [] (opened_process w lp)
  process_reported lp = record {
    consistent_fold = tt;
    history = (refl, refl);
    state_meets = refl;
    number_meets = refl;
    number_limit = Every-get_or-default (λ (n : ℕ). n ≤ 2 ^ 63) w.numbers lp 0 can.loadable.numbers (omega arith);
    ascending = tt;
    waiting_ascending = IsAscending-filter (λ (x : Message). x.to == lp) w.pending can.loadable.world.ascending;
    antis_ascending = tt;
    behind = Every-all (λ (y : Message). Every (λ (d : Message). IsAtMost d y) []) (λ _. tt) (filter (λ (x : Message). x.to == lp) w.pending);
    own_reported = tt;
    own_done = tt;
    own_waiting = Every-passes lp w.pending;
    own_antis = tt;
    reported_from = tt;
    reported_below = tt;
    done_from = tt;
    waiting_from = Every-filter (λ (x : Message). w.time ≤ x.time) (λ (x : Message). x.to == lp) w.pending can.loadable.left;
    antis_from = tt;
  }

  opened_balanced : IsBalanced m first
  opened_balanced x l =
      let q = process_is x.to l in
      let handled = ap (λ (q : Process). copies x (messages q.done)) q in
      let waiting = ap (λ (q : Process). copies x q.waiting) q ∙ copies-filter x (λ (y : Message). y.to == x.to) w.pending (eq-eqb x.to x.to refl) in
      let antis = ap (λ (q : Process). copies x q.antis) q in
      let plus = ap (λ ss. copies x (of_sign Plus ss)) (nothing_delivered nodes) in
      let minus = ap (λ ss. copies x (of_sign Minus ss)) (nothing_delivered nodes) in
      let sent = ap (copies x) (nothing_sent m.lps nodes w (below nodes)) in
      omega arith

  opened_in_range : IsSystemInRange first
  opened_in_range = (
    tt,
    Every-map (λ (qs : List Process). Every IsProcessInRange qs) (node_opened m.lps nodes w) (below nodes)
        (Every-all (λ (node : ℕ). Every IsProcessInRange (node_opened m.lps nodes w node))
        (λ node. Every-map IsProcessInRange (opened_process w) (own_lps nodes node m.lps)
        (Every-all (λ (lp : ℕ). IsProcessInRange (opened_process w lp)) (λ lp. (
          tt,
          Every-weaker (IsAddressed m.lps) IsRanged (λ x h. h.ranged) (filter (λ (x : Message). x.to == lp) w.pending) (Every-filter (IsAddressed m.lps) (λ (x : Message). x.to == lp) w.pending can.loadable.world.addressed),
          tt,
        )) (own_lps nodes node m.lps))) (below nodes)),
    subst (Every (λ (s : Signed). IsRanged s.message)) (sym (nothing_delivered nodes)) tt,
  )

  opened_seated : IsSeatedBy m.lps first
  opened_seated = record {
    seats = λ node l.
        ap length (node_is node (let e = many in omega arith))
        ∙ length-map (own_lps nodes node m.lps) (opened_process w)
        ∙ ap (λ (n : ℕ). length (own_lps n node m.lps)) (sym many);
    parcels = length-replicate nodes None ∙ sym many;
    floors = length-replicate nodes w.time ∙ sym many;
    reported = tt;
  }

  gvt_from : w.time ≤ gvt end first
  gvt_from =
      gvt_above end w.time first can.loadable.within
      (Every-map (λ (qs : List Process). Every (KeptFrom w.time) qs) (node_opened m.lps nodes w) (below nodes)
      (Every-all (λ (node : ℕ). Every (KeptFrom w.time) (node_opened m.lps nodes w node))
      (λ node. Every-map (KeptFrom w.time) (opened_process w) (own_lps nodes node m.lps)
      (Every-all (λ (lp : ℕ). KeptFrom w.time (opened_process w lp))
      (λ lp. Every-append (IsFrom w.time) (filter (λ (x : Message). x.to == lp) w.pending) []
      (Every-filter (λ (x : Message). w.time ≤ x.time) (λ (x : Message). x.to == lp) w.pending can.loadable.left) tt) (own_lps nodes node m.lps))) (below nodes)))
      (subst (Every (SignedFrom w.time)) (sym (nothing_delivered nodes)) tt)

  opened_sound : IsUpto m end w.time w → IsSoundSystem m end first
  opened_sound front = record {
    front = front;
    some = (let a = can.some in let b = many in omega arith);
    seated = opened_seated;
    in_range = opened_in_range;
    reported = λ lp l.
        subst (λ (q : Process). IsConsistentProcess m lp w.time (state_of w lp) (number_of w lp) (floor_at first lp) [] q) (sym (process_is lp l))
        (subst (λ (f : ℕ). IsConsistentProcess m lp w.time (state_of w lp) (number_of w lp) f [] (opened_process w lp)) (sym (floor_is lp)) (process_reported lp));
    balanced = opened_balanced;
    front_low = Every-replicate (λ (f : ℕ). w.time ≤ f) nodes w.time (omega arith);
    floors_low = Every-replicate (λ (f : ℕ). f ≤ gvt end first) nodes w.time gvt_from;
    there = tt;
    parcels = λ node parcel e. absurd (no_parcel nodes node parcel e);
  }

  -- 3. The load of a node

  abbrev loaded_part : Part → Process
  loaded_part p = loaded p.words p.number p.pending

  loaded_is : (lp : ℕ) → loaded_part (part_of w lp) ≡ opened_process w lp
  loaded_is lp =
      let mine : List Message = filter (λ (x : Message). x.to == lp) w.pending in
      let up = IsAscending-filter (λ (x : Message). x.to == lp) w.pending can.loadable.world.ascending in
      let same : add_all mine [] ≡ mine = add_all-ascending mine [] (rw append-nil up) ∙ append-nil mine in
      ap (λ (xs : List Message). record { done = []; waiting = xs; antis = []; state = state_of w lp; number = number_of w lp }) same

  all_loaded : (lps : List ℕ) → map loaded_part (map (part_of w) lps) ≡ map (opened_process w) lps
  all_loaded [] = refl
  all_loaded (lp ∷ lps) = ap (λ (q : Process). q ∷ map loaded_part (map (part_of w) lps)) (loaded_is lp) ∙ ap (λ (qs : List Process). opened_process w lp ∷ qs) (all_loaded lps)

  parts_named : (lps : List ℕ) → map (λ (p : Part). p.lp) (map (part_of w) lps) ≡ lps
  parts_named [] = refl
  parts_named (lp ∷ lps) = ap (λ (ks : List ℕ). lp ∷ ks) (parts_named lps)

  abbrev node_with : ℕ → ℕ → ℕ → List Process → Node
  node_with node n floor qs = record { node = node; nodes = n; lps = m.lps; end = end; floor = floor; spent = false; processes = qs }

  load_accepted : (node : ℕ) → load_refusal m.lps (load_of m.lps end nodes node w) ≡ None
  load_accepted node =
      let lps : List ℕ = own_lps nodes node m.lps in
      let load : Load = load_of m.lps end nodes node w in
      not_refused m.lps m.lps load load.parts refl refl (parts_named lps)
      (Every-map (λ (p : Part). Every (λ (x : Message). x.to ≡ p.lp) p.pending) (part_of w) lps (Every-all (λ (lp : ℕ). Every (λ (x : Message). x.to ≡ lp) (part_of w lp).pending) (λ lp. Every-passes lp w.pending) lps))
      (Every-map (λ (p : Part). Every (λ (x : Message). w.time ≤ x.time) p.pending) (part_of w) lps
      (Every-all (λ (lp : ℕ). Every (λ (x : Message). w.time ≤ x.time) (part_of w lp).pending) (λ lp. Every-filter (λ (x : Message). w.time ≤ x.time) (λ (x : Message). x.to == lp) w.pending can.loadable.left) lps))

  load_is : (node : ℕ) → node < nodes → loaded_node m.lps (load_of m.lps end nodes node w) ≡ node_view m end first node
  load_is node l =
      let qs : List Process = map loaded_part (map (part_of w) (own_lps nodes node m.lps)) in
      ap (λ (n : ℕ). node_with node n w.time qs) (sym many)
      ∙ ap (λ (f : ℕ). node_with node (nodes_of first) f qs) (sym (get_or-replicate nodes node w.time 0 l))
      ∙ ap (node_with node (nodes_of first) (get_or (replicate nodes w.time) node 0)) (all_loaded (own_lps nodes node m.lps) ∙ sym (node_is node l))

  node_loaded : (node : ℕ) → node < nodes → IsLoadedWith m end nodes node w
  node_loaded node l =
      let lps : List ℕ = own_lps nodes node m.lps in
      let none = load_accepted node in
      record {
        in_range = Every-map IsPartInRange (part_of w) lps
            (Every-all (λ (lp : ℕ). IsPartInRange (part_of w lp))
            (λ lp. record { words = (words_at w lp can.loadable.world.words).0; number = Every-get_or-default (λ (n : ℕ). n ≤ 2 ^ 63) w.numbers lp 0 can.loadable.numbers (omega arith) }) lps);
        answer = rw (load_answer, none) (ap Ok (load_is node l));
      }

pub opening_can_open : (m : Meaning) (end nodes : ℕ) (w : World) → IsOpening m end nodes w → CanOpen m end nodes w
opening_can_open m end nodes w begins =
    let is = IsUpto_IsReached m end w.time w begins.lawful begins.short begins.front in
    record { short = begins.short; some = begins.some; loadable = record { world = is.world; numbers = is.numbers; within = begins.soon; left = begins.front.left } }

pub opening_is_sound : OpeningIsSound
opening_is_sound m end nodes w begins = record { lawful = begins.lawful; short = begins.short; sound = opened_sound m end nodes w (opening_can_open m end nodes w begins) begins.front }

pub opened_nodes : OpenedNodes
opened_nodes m end nodes node w can l = node_loaded m end nodes w can node l
