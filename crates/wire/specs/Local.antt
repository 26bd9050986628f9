-- A port to a node in this program.
use Rattle.std.specs.Prelude.{Err, None, Some, false, true, ℕ, ◌≡◌, ◌⊎◌}
use Rattle.model.specs.Meaning.{Meaning}
use Rattle.node.specs.Handling.{Node, answer, load_refusal, refusal}
use Rattle.node.specs.declared.Load.{Load}
use Rattle.node.specs.declared.NodeFault.TheVariants as node
use Rattle.node.specs.declared.Parcel.{Parcel}
use Rattle.wire.specs.Port.{PortState, Stage, faults_of_node, nobody}
use Rattle.wire.specs.Port.Stage.{Ended as AtEnd, Fresh as AtFirst, Idle as AtRest}
use Rattle.wire.specs.Port.Stage.{Posted as AtWork}
use Rattle.wire.specs.declared.local.Held.{Held}
use Rattle.wire.specs.declared.port.PortFault.{PortFault}
use Rattle.wire.specs.declared.port.PortFault.TheVariants.{Peer}
use Rattle.wire.specs.declared.local.Held.TheVariants.{Ended, Fresh, Idle, Posted}

-- a port's model, and what the port holds
pub record Local (M : Type 0) : Type 0 where
  pub model : M
  pub held : Held

abbrev pub stage_of : Held → Stage
stage_of Fresh = AtFirst
stage_of (Idle node) = AtRest
stage_of (Posted node parcel) = AtWork parcel
stage_of Ended = AtEnd

abbrev pub local_node : Held → Node
local_node Fresh = nobody
local_node (Idle node) = node
local_node (Posted node parcel) = node
local_node Ended = nobody

abbrev pub state_of : Meaning → Held → PortState
state_of m held = record {
  stage = stage_of held;
  faithful = true;
  resource_faults = faults_of_node;
  meaning = m;
  node = local_node held;
}

-- the same, with the meaning of the port's model
abbrev pub state_by : {M : Type 0} → (M → Meaning) → Local M → PortState
state_by meaning port = state_of (meaning port.model) port.held

-- why a load is refused: the node refuses it, or accepts it and an allocation fails
abbrev pub IsLoadCause : ℕ → Load → PortFault → Type 0
IsLoadCause lps load (Peer n) =
    (load_refusal lps load ≡ Some n) ⊎ ((load_refusal lps load ≡ None) × (n ≡ node.NoMemory))
IsLoadCause lps load fault = ⊥

-- why `take` fails: the node refuses the parcel or meets a limit, or accepts it and an allocation
-- fails
abbrev pub IsTakeCause : Meaning → Node → Parcel → PortFault → Type 0
IsTakeCause m n parcel (Peer f) =
    ((answer m n parcel).result ≡ Err f) ⊎ ((refusal n parcel ≡ None) × (f ≡ node.NoMemory))
IsTakeCause m n parcel fault = ⊥

-- the node is of this model and not spent
abbrev pub IsOfModel : Meaning → Held → Type 0
IsOfModel m (Idle node) = (node.spent ≡ false) × (node.lps ≡ m.lps)
IsOfModel m (Posted node parcel) = (node.spent ≡ false) × (node.lps ≡ m.lps)
IsOfModel m held = Unit {0}
