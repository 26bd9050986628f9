-- A port, the way to one node, and its state as contracts see it.
use Rattle.std.specs.List.{AllByRecursion as Every}
use Rattle.std.specs.Prelude.{Bool, None, Some, [], false, true, ◌<◌, ◌≡◌, ◌≤◌, ◌⊎◌, ◌^◌, Ok, Err}
use Rattle.model.specs.Meaning.{Meaning}
use Rattle.node.specs.Handling.{IsInRange, Node, answer, load_refusal, loaded_node}
use Rattle.node.specs.declared.Load.{Load}
use Rattle.node.specs.declared.NodeFault.{NodeFault}
use Rattle.node.specs.declared.NodeFault.TheVariants as node
use Rattle.node.specs.declared.Parcel.{Parcel}
use Rattle.node.specs.declared.Reply.{Reply}
use Rattle.wire.specs.declared.port.PortFault.{PortFault}
use Rattle.wire.specs.declared.port.PortFault.TheVariants.{Peer, Wire}
use Rattle.wire.specs.declared.port.WireFault.TheVariants as wire
use Rattle.node.specs.Node.{most_nodes}

-- The stage of a port: nothing is loaded, it waits for a parcel, it was posted one, or a call was
-- refused.
pub data Stage : Type 0 where
  Fresh : Stage
  Idle : Stage
  Posted : Parcel → Stage
  Ended : Stage

-- The state of a port: its stage, whether it is faithful (`faithful`), which resource faults its calls
-- can have, the model of its node, and the node.
pub record PortState : Type 0 where
  pub stage : Stage
  pub faithful : Bool
  pub resource_faults : PortFault → Bool
  pub meaning : Meaning
  pub node : Node

-- a call changes neither whether a port is faithful, nor its resource faults, nor its model
pub record IsSamePort (old new : PortState) : Type 0 where
  pub faithful : new.faithful ≡ old.faithful
  pub resource_faults : new.resource_faults ≡ old.resource_faults
  pub meaning : new.meaning ≡ old.meaning

-- the numbers of a load are in range
pub record IsLoadInRange (load : Load) : Type 0 where
  pub node : load.node < load.nodes
  pub nodes : load.nodes ≤ most_nodes
  pub some : 1 ≤ load.end
  pub end : load.end ≤ 2 ^ 40
  pub floor : load.floor ≤ load.end
  pub parts : Every IsInRange load.parts

-- Faults that say nothing of what was passed in: an allocation failed, or a body is too long. A port
-- has only those of its set.
abbrev pub IsResourceFault : PortState → PortFault → Type 0
IsResourceFault port (Wire wire.NoMemory) = port.resource_faults (Wire wire.NoMemory) ≡ true
IsResourceFault port (Wire wire.TooLong) = port.resource_faults (Wire wire.TooLong) ≡ true
IsResourceFault port (Peer node.NoMemory) = port.resource_faults (Peer node.NoMemory) ≡ true
IsResourceFault port fault = ⊥

-- sets of resource faults: none, that of a node which has no memory, and all
abbrev pub no_faults : PortFault → Bool
no_faults fault = false

abbrev pub faults_of_node : PortFault → Bool
faults_of_node (Peer node.NoMemory) = true
faults_of_node fault = false

abbrev pub all_faults : PortFault → Bool
all_faults fault = true

-- a load through a faithful port: the node accepts it, and is the one that `Node::load` makes
pub record IsLoaded (load : Load) (old new : PortState) : Type 0 where
  pub taken : load_refusal old.meaning.lps load ≡ None
  pub node_is : new.node ≡ loaded_node old.meaning.lps load

abbrev pub IsLoadFault : Load → PortState → PortFault → Type 0
IsLoadFault load old fault = IsResourceFault old fault
    ⊎ ((f : NodeFault) × (fault ≡ Peer f) × (load_refusal old.meaning.lps load ≡ Some f))

-- a faithful port that was posted this parcel returns its node's answer
pub record IsTaken (parcel : Parcel) (old new : PortState) (reply : Reply) : Type 0 where
  pub result_is : (answer old.meaning old.node parcel).result ≡ Ok reply
  pub node_is : new.node ≡ (answer old.meaning old.node parcel).node

abbrev pub IsTakeFault : Parcel → PortState → PortFault → Type 0
IsTakeFault parcel old fault = IsResourceFault old fault
    ⊎ ((f : NodeFault) × (fault ≡ Peer f) × ((answer old.meaning old.node parcel).result ≡ Err f))

-- the node of a port that has none
abbrev pub nobody : Node
nobody = record { node = 0; nodes = 0; lps = 0; end = 0; floor = 0; spent = false; processes = [] }
