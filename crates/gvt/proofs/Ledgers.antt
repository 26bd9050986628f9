-- The ledger's floor is global virtual time, and the ledger follows the system state.
use Rattle.std.proofs.Common.{ℕ, ◌≤◌, ◌<◌, ◌++◌, Option, Some, None, List, [], ◌∷◌, arith, min, refl, sym, ap, set, ◌≡◌, map, flat_map, ◌∙◌}
use Rattle.std.proofs.lemmas.Bool.{cond_both}
use Rattle.std.proofs.lemmas.List.{ext_get_or, length-map, map-set, get_or-map}
use Rattle.std.specs.List.{AllByRecursion as Every}
use Rattle.std.specs.Prelude.{if◌then◌else◌, nat_lt, not, ◌&&◌}
use Rattle.eventkey.proofs.Lists.{Every-flat_map, Every-map, Every-unflat_map, Every-unmap, Every-weaker}
use Rattle.eventkey.proofs.Times.{IsFrom, least_time-above, least_time-each, least_time-le}
use Rattle.eventkey.specs.Bag.{least_time}
use Rattle.eventkey.specs.Message.{Message}
use Rattle.eventkey.specs.declared.Signed.{Signed}
use Rattle.model.proofs.Worlds.{get_or-below, length-below}
use Rattle.model.specs.World.{below}
use Rattle.process.specs.Process.{Process, release}
use Rattle.node.specs.Node.{Work, first_time, low_of, released_processes}
use Rattle.gvt.specs.Ledger.{ledger_floor, least_floor, least_low}
use Rattle.gvt.specs.Picks.{are_distinct, can_pick, not_picked, picked}
use Rattle.gvt.proofs.Gvt.{KeptFrom, gvt-le, gvt_above, gvt_nodes, gvt_travelling, kept_by}
use Rattle.gvt.specs.Laws.{LedgersAllowPosts, LedgersFollowSystems, LedgerFloorIsGvt}
use Rattle.gvt.specs.Moves.{Busy, NoSuchNode, NoSuchPick, commit, is_busy}
use Rattle.gvt.specs.System.{System, gvt, lows_of, node_of, nodes_of, travelling}
use Rattle.gvt.specs.Views.{ledger_of}

-- 1. Its floor

-- the low of a node, if there is one, is at least g
abbrev IsLow : ℕ → Option ℕ → Type 0
IsLow g None = Unit {0}
IsLow g (Some low) = g ≤ low

pub least_low-le : (t : ℕ) (lows : List (Option ℕ)) → least_low t lows ≤ t
least_low-le t [] = omega arith
least_low-le t (None ∷ lows) = least_low-le t lows
least_low-le t (Some low ∷ lows) = omega (arith, least_low-le (min t low) lows)

least_low-each : (t : ℕ) (lows : List (Option ℕ)) → Every (IsLow (least_low t lows)) lows
least_low-each t [] = tt
least_low-each t (None ∷ lows) = (tt, least_low-each t lows)
least_low-each t (Some low ∷ lows) = (omega (arith, least_low-le (min t low) lows), least_low-each (min t low) lows)

least_low-above : (g t : ℕ) (lows : List (Option ℕ)) → g ≤ t → Every (IsLow g) lows → g ≤ least_low t lows
least_low-above g t [] h k = h
least_low-above g t (None ∷ lows) h k = least_low-above g t lows h k.1
least_low-above g t (Some low ∷ lows) h k = least_low-above g (min t low) lows (let a = k.0 in omega arith) k.1

first_time-each : (g : ℕ) (xs : List Message) → IsLow g (first_time xs) → Every (IsFrom g) xs
first_time-each g [] h = tt
first_time-each g (x ∷ xs) h =
    (let a = least_time-le x.time xs in omega arith, Every-weaker (IsFrom (least_time x.time xs)) (IsFrom g) (λ y a. omega arith) xs (least_time-each x.time xs))

first_time-above : (g : ℕ) (xs : List Message) → Every (IsFrom g) xs → IsLow g (first_time xs)
first_time-above g [] h = tt
first_time-above g (x ∷ xs) h = least_time-above g x.time xs h.0 h.1

-- the low of a node is not before g exactly if nothing waits there before g
kept_from_low : (g : ℕ) (qs : List Process) → IsLow g (low_of qs) → Every (KeptFrom g) qs
kept_from_low g qs h = Every-unflat_map (IsFrom g) kept_by qs (first_time-each g (flat_map kept_by qs) h)

low_from_kept : (g : ℕ) (qs : List Process) → Every (KeptFrom g) qs → IsLow g (low_of qs)
low_from_kept g qs h = first_time-above g (flat_map kept_by qs) (Every-flat_map (IsFrom g) kept_by qs h)

pub ledger_floor_is_gvt : LedgerFloorIsGvt
ledger_floor_is_gvt end p =
    let moving : List Message = map (λ (s : Signed). s.message) (travelling p) in
    let lows = lows_of p in
    let f = ledger_floor end p.transit p.parcels lows in
    let g = gvt end p in
    let lower : f ≤ least_time end moving = least_low-le (least_time end moving) lows in
    let all : Every (λ (qs : List Process). Every (KeptFrom f) qs) p.nodes =
    Every-weaker (λ (qs : List Process). IsLow f (low_of qs)) (λ (qs : List Process). Every (KeptFrom f) qs) (λ qs h. kept_from_low f qs h) p.nodes
    (Every-unmap (IsLow f) low_of p.nodes (least_low-each (least_time end moving) lows)) in
    let up : f ≤ g = gvt_above end f p (let a = least_time-le end moving in omega arith) all
    (Every-unmap (IsFrom f) (λ (s : Signed). s.message) (travelling p) (Every-weaker (IsFrom (least_time end moving)) (IsFrom f) (λ x a. omega arith) moving (least_time-each end moving))) in
    let down : g ≤ f = least_low-above g (least_time end moving) lows
    (least_time-above g end moving (gvt-le end p) (Every-map (IsFrom g) (λ (s : Signed). s.message) (travelling p) (gvt_travelling end p)))
    (Every-map (IsLow g) low_of p.nodes
    (Every-weaker (λ (qs : List Process). Every (KeptFrom g) qs) (λ (qs : List Process). IsLow g (low_of qs)) (λ qs h. low_from_kept g qs h) p.nodes (gvt_nodes end p))) in
    omega arith

-- 2. Move by move

-- releasing what is reported does not change what waits
kept_released : (floor : ℕ) (qs : List Process) → flat_map kept_by (map (λ (q : Process). release floor q) qs) ≡ flat_map kept_by qs
kept_released floor [] = refl
kept_released floor (q ∷ qs) = ap (λ (xs : List Message). kept_by q ++ xs) (kept_released floor qs)

low_released : (floor : ℕ) (w : Work) → low_of (released_processes floor w) ≡ low_of w.processes
low_released floor w = ap first_time (kept_released floor w.processes)

pub ledgers_follow : LedgersFollowSystems
ledgers_follow m end = record {
  lows = λ p. ext_get_or None (lows_of p) (map (λ (node : ℕ). low_of (node_of p node)) (below (nodes_of p)))
      (length-map p.nodes low_of ∙ sym (length-map (below (nodes_of p)) (λ (node : ℕ). low_of (node_of p node)) ∙ length-below (nodes_of p)))
      (λ i l.
      let there : i < nodes_of p = let e = length-map p.nodes low_of in omega arith in
      get_or-map low_of p.nodes i [] None there
      ∙ sym (get_or-map (λ (node : ℕ). low_of (node_of p node)) (below (nodes_of p)) i 0 None (let e = length-below (nodes_of p) in omega arith) ∙ ap (λ (node : ℕ). low_of (node_of p node)) (get_or-below (nodes_of p) i 0 there)));
  starts = λ nodes w. refl;
  posts = λ p node picks budget.
      ap (λ (floor : ℕ). record (ledger_of end p) {
        transit = not_picked picks 0 p.transit;
        parcels = set p.parcels node (Some (record { deliver = picked p.transit picks; budget = budget; floor = floor }));
      }) (ledger_floor_is_gvt end p);
  takes = λ p node parcel w.
      ap (λ (lows : List (Option ℕ)). record (ledger_of end p) {
        transit = p.transit ++ w.out;
        parcels = set p.parcels node None;
        lows = lows;
        floors = set p.floors node parcel.floor;
      }) (ap (λ (low : Option ℕ). set (lows_of p) node low) (sym (low_released parcel.floor w)) ∙ sym (map-set low_of p.nodes node (released_processes parcel.floor w)));
  commits = λ p.
      cond_both (nat_lt p.front.time (least_floor end p.floors)) (commit m (least_floor end p.floors) p) p (λ (q : System). ledger_of end q ≡ ledger_of end p) (λ _. refl) (λ _. refl);
}

-- 3. The posts that it allows

pub ledgers_allow : LedgersAllowPosts
ledgers_allow m end p system =
    let same = system.sound.seated.floors in
    record {
      nodes = same;
      busy = λ node. refl;
      picks = λ node picks. ap (λ (n : ℕ). can_pick n node p.transit picks && are_distinct picks) same;
      refused = λ node picks budget. sym (ap (λ (n : ℕ).
          if not (nat_lt node n) then Some NoSuchNode
          else if is_busy p node then Some Busy
          else if can_pick n node p.transit picks && are_distinct picks then None
          else Some NoSuchPick) same);
    }
