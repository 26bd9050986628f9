-- The invariant of a running system, and how a later system state relates to an earlier one.
use Rattle.std.specs.List.{AllByRecursion as Every}
use Rattle.std.specs.Prelude.{List, None, Some, get_or, ℕ, ◌%◌, ◌++◌, ◌<◌, ◌^◌, ◌≡◌, ◌≤◌}
use Rattle.eventkey.specs.Message.{Message}
use Rattle.eventkey.specs.declared.Signed.{Signed}
use Rattle.model.specs.Meaning.{IsLawful, Meaning}
use Rattle.model.specs.Runner.{IsLoadable}
use Rattle.model.specs.World.{IsUpto, World}
use Rattle.node.specs.declared.Parcel.{Parcel}
use Rattle.gvt.specs.System.{IsBalanced, IsSystemInRange, IsSeatedBy, IsConsistent, System}
use Rattle.gvt.specs.System.{gvt, nodes_of}

-- The invariant of a parcel under way to a node: its messages are for processes of that node, and
-- its floor lies between the node's and global virtual time.
pub record IsParcel (m : Meaning) (nodes node low high : ℕ) (parcel : Parcel) : Type 0 where
  pub from : low ≤ parcel.floor
  pub upto : parcel.floor ≤ high
  pub there : Every (λ (s : Signed). s.message.to < m.lps) parcel.deliver
  pub on_node : Every (λ (s : Signed). s.message.to % nodes ≡ node) parcel.deliver

-- The invariant of a running system: its front is the sequential simulation up to the front's time,
-- its processes are on its nodes, it is consistent with the model and balanced, and no floor, of a
-- node or of a parcel under way, is above global virtual time. The front's time is at most those
-- floors, and so not past the end.
pub record IsSoundSystem (m : Meaning) (end : ℕ) (p : System) : Type 0 where
  pub front : IsUpto m end p.front.time p.front
  pub some : 1 ≤ nodes_of p
  pub seated : IsSeatedBy m.lps p
  pub in_range : IsSystemInRange p
  pub reported : IsConsistent m p
  pub balanced : IsBalanced m p
  pub front_low : Every (λ (f : ℕ). p.front.time ≤ f) p.floors
  pub floors_low : Every (λ (f : ℕ). f ≤ gvt end p) p.floors
  pub there : Every (λ (s : Signed). s.message.to < m.lps) p.transit
  pub parcels : (node : ℕ) (parcel : Parcel) → get_or p.parcels node None ≡ Some parcel →
      IsParcel m (nodes_of p) node (get_or p.floors node 0) (gvt end p) parcel

-- a system state of a system that runs a model to an end
pub record IsSystem (m : Meaning) (end : ℕ) (p : System) : Type 0 where
  pub lawful : IsLawful m
  pub short : end ≤ 2 ^ 40
  pub sound : IsSoundSystem m end p

-- A world with which this number of nodes can be loaded, whether or not it is the sequential
-- simulation.
pub record CanOpen (m : Meaning) (end nodes : ℕ) (w : World) : Type 0 where
  pub short : end ≤ 2 ^ 40
  pub some : 1 ≤ nodes
  pub loadable : IsLoadable m.lps end w

-- A session opens with some nodes and a front that is the sequential simulation up to its time,
-- which is not past the end. The simulation up to a time does not imply the latter: past the end it
-- makes no step, so the time can be past it.
pub record IsOpening (m : Meaning) (end nodes : ℕ) (w : World) : Type 0 where
  pub lawful : IsLawful m
  pub short : end ≤ 2 ^ 40
  pub some : 1 ≤ nodes
  pub soon : w.time ≤ end
  pub front : IsUpto m end w.time w

-- How a later system state of a system relates to an earlier one.
pub record GoesOnFrom (end : ℕ) (p p' : System) : Type 0 where
  pub gvt_rises : gvt end p ≤ gvt end p'
  pub same_nodes : nodes_of p' ≡ nodes_of p
  pub floors_rise : (node : ℕ) → get_or p.floors node 0 ≤ get_or p'.floors node 0
  pub time_rises : p.front.time ≤ p'.front.time
  pub log_grows : (more : List Message) × (p'.front.log ≡ p.front.log ++ more)
