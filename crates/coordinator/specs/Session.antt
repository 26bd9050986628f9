-- A session: what holds of it between two steps.
use Rattle.std.specs.List.{AllByRecursion as Every}
use Rattle.std.specs.Prelude.{Bool, List, None, Option, Some, [], false, get_or, length, map, true}
use Rattle.std.specs.Prelude.{ℕ, ◌<◌, ◌^◌, ◌≡◌, ◌≤◌}
use Rattle.commitlog.specs.Log.{Opened}
use Rattle.eventkey.specs.Bag.{IsAscending}
use Rattle.eventkey.specs.declared.Signed.{Signed}
use Rattle.gvt.specs.Ledger.{Ledger, nodes_of}
use Rattle.model.specs.Meaning.{Meaning}
use Rattle.model.specs.World.{World}
use Rattle.node.specs.declared.Parcel.{Parcel}
use Rattle.process.specs.declared.Done.{Done}
use Rattle.gvt.specs.System.{System, lows_of}
use Rattle.wire.specs.Port.{PortState, Stage, no_faults, nobody}
use Rattle.wire.specs.Port.Stage.{Fresh, Idle, Posted}
use Rattle.gvt.specs.Sound.{IsSystem}
use Rattle.gvt.specs.Views.{node_view}
use Rattle.node.specs.Node.{most_nodes}

-- A session as contracts see it. The meaning of its model, the states of its ports and what a crash
-- may leave of its disk are ghost values of those fields.
pub record Session (M P D : Type 0) : Type 0 where
  pub model : M
  pub end : ℕ
  pub front : World
  pub gathered : List Done  -- what nodes reported and no commit has taken yet
  pub ledger : Ledger
  pub ports : List P
  pub log : Opened D
  pub spent : Bool

-- the numbers of nodes and ports are as before
pub record HasSameNodes {M P D : Type 0} (old new : Session M P D) : Type 0 where
  pub nodes : nodes_of new.ledger ≡ nodes_of old.ledger
  pub ports : length new.ports ≡ length old.ports

-- so are the model and the end
pub record IsSameSession {M P D : Type 0} (old new : Session M P D) : Type 0 where
  pub same : (new.model ≡ old.model) × (new.end ≡ old.end)
  pub nodes : HasSameNodes old new

-- a session without its log, with its model's meaning and its ports' states
pub record Running : Type 0 where
  pub meaning : Meaning
  pub end : ℕ
  pub front : World
  pub gathered : List Done
  pub ledger : Ledger
  pub ports : List PortState

abbrev pub running : {M P D : Type 0} → (M → Meaning) → (P → PortState) → Session M P D → Running
running meaning state s = record {
  meaning = meaning s.model;
  end = s.end;
  front = s.front;
  gathered = s.gathered;
  ledger = s.ledger;
  ports = map state s.ports;
}

-- The system state of a session. A session does not store it: it consists of the session's front,
-- its ledger, what it gathered, and the nodes behind its ports.
abbrev pub system_of : Running → System
system_of r = record {
  front = r.front;
  gathered = r.gathered;
  nodes = map (λ (p : PortState). p.node.processes) r.ports;
  transit = r.ledger.transit;
  parcels = r.ledger.parcels;
  floors = r.ledger.floors;
}

-- the state of a port that does not exist
abbrev pub no_port : PortState
no_port = record {
  stage = Fresh;
  faithful = false;
  resource_faults = no_faults;
  meaning = record {
    lps = 0;
    identity = [];
    origin = None;
    start_state = λ lp. [];
    start_sends = λ lp. [];
    next_state = λ lp state x. [];
    sends = λ lp state x. [];
  };
  node = nobody;
}

abbrev pub port_at : List PortState → ℕ → PortState
port_at ports k = get_or ports k no_port

-- the stage of a port whose node has this outstanding parcel, or none
abbrev pub stage_by : Option Parcel → Stage
stage_by None = Idle
stage_by (Some parcel) = Posted parcel

-- The invariant of a session that is not spent, over any ports and any disk.
pub record IsFit (r : Running) : Type 0 where
  pub end_is : r.ledger.end ≡ r.end
  pub short : r.end ≤ 2 ^ 40
  pub parcels : length r.ledger.parcels ≡ length r.ports
  pub floors : length r.ledger.floors ≡ length r.ports
  pub few : length r.ports ≤ most_nodes
  pub stages : (k : ℕ) → k < length r.ports →
      (port_at r.ports k).stage ≡ stage_by (get_or r.ledger.parcels k None)
  pub states : length r.front.states ≡ r.meaning.lps
  pub numbers : length r.front.numbers ≡ r.meaning.lps
  pub ascending : IsAscending r.front.pending
  pub there : Every (λ (d : Done). d.message.to < r.meaning.lps) r.gathered
  pub transit : Every (λ (s : Signed). s.message.to < r.meaning.lps) r.ledger.transit

-- this port is faithful, and its node is that of the system state
pub record IsPortOf (r : Running) (k : ℕ) (p : PortState) : Type 0 where
  pub faithful : p.faithful ≡ true
  pub meaning : p.meaning ≡ r.meaning
  pub node_is : p.node ≡ node_view r.meaning r.end (system_of r) k

-- A consistent session: its ports are faithful and run its model, and its system state is sound.
pub record IsConsistentSession (r : Running) : Type 0 where
  pub ports : (k : ℕ) → k < length r.ports → IsPortOf r k (port_at r.ports k)
  pub lows : r.ledger.lows ≡ lows_of (system_of r)
  pub system : IsSystem r.meaning r.end (system_of r)
