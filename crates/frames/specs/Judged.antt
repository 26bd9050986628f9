-- A port that judges the reports of its node, as contracts see it.
use Rattle.std.specs.Prelude.{Bool, List, None, Option, Some, [], false, if◌then◌else◌, map, true, ℕ, ◌≡◌}
use Rattle.model.specs.Meaning.{Meaning}
use Rattle.node.specs.declared.Load.{Load}
use Rattle.node.specs.declared.Parcel.{Parcel}
use Rattle.node.specs.declared.Reply.{Reply}
use Rattle.frames.specs.Judging.{AreJudged, AreOfModel, IsFirstRefused, Known, loaded_known}
use Rattle.frames.specs.declared.judging.differences.ReportDifference.{ReportDifference}
use Rattle.wire.specs.Port.{IsLoaded, IsTakeFault, IsTaken, PortState}
use Rattle.wire.specs.Port.Stage.{Ended, Idle, Posted}
use Rattle.wire.specs.declared.port.PortFault.{PortFault}
use Rattle.wire.specs.declared.port.PortFault.TheVariants.{BadReply, Wire}
use Rattle.wire.specs.declared.port.WireFault.TheVariants.{NoMemory}

-- the model by which it judges, the port to the node, how often it judges, the number of nodes, what
-- is known of the node's processes, whether it refused a reply or a load, and the event of the report
-- that it refused
pub record Judged (M P : Type 0) : Type 0 where
  pub model : M
  pub port : P
  pub every : ℕ
  pub nodes : ℕ
  pub known : List Known
  pub ended : Bool
  pub refused : Option ReportDifference

-- a port that judges by this model one report in `every`, and through which nothing is loaded yet
abbrev pub new_judge : {M P : Type 0} → M → ℕ → P → Judged M P
new_judge model every port = record {
  model = model;
  port = port;
  every = every;
  nodes = 1;
  known = [];
  ended = false;
  refused = None;
}

-- the resource faults of a port that judges: an allocation of its own may fail, or the port below has
-- one
abbrev pub judged_faults : (PortFault → Bool) → PortFault → Bool
judged_faults below (Wire NoMemory) = true
judged_faults below fault = below fault

-- The state of a port that judges over a port in this state. It makes no promise of a faithful port,
-- since it can refuse a reply.
abbrev pub judged_state : Bool → PortState → PortState
judged_state ended s = record {
  stage = if ended then Ended else s.stage;
  faithful = false;
  resource_faults = judged_faults s.resource_faults;
  meaning = s.meaning;
  node = s.node;
}

abbrev pub state_by : {M P : Type 0} → (P → PortState) → Judged M P → PortState
state_by state j = judged_state j.ended (state j.port)

-- The port below is loaded with this load, and the judge knows its processes; nothing else changes.
pub record IsJudgedLoad {M P : Type 0} (state : P → PortState) (load : Load) (old new : Judged M P) :
    Type 0 where
  pub loaded : (state old.port).faithful ≡ true → IsLoaded load (state old.port) (state new.port)
  pub known : new ≡ record old {
    port = new.port;
    nodes = load.nodes;
    known = map (loaded_known old.every) load.parts;
  }

-- this reply is one that the port below can have returned
abbrev pub IsTakenBelow : PortState → PortState → Reply → Type 0
IsTakenBelow old new reply = (parcel : Parcel) → old.stage ≡ Posted parcel → old.faithful ≡ true →
    IsTaken parcel old new reply

-- The judge passes this reply on: the port below returned it, and its reports are judged by what was
-- known. Where all are judged, the reports of each process are what the model does. The judge goes on
-- as before.
pub record IsPassed {M P : Type 0} (meaning : M → Meaning) (state : P → PortState)
    (old new : Judged M P) (reply : Reply) : Type 0 where
  pub taken : IsTakenBelow (state old.port) (state new.port) reply
  pub judged : AreJudged (meaning old.model) old.every old.nodes old.known reply.fossils new.known
  pub all : old.every ≡ 1 → AreOfModel (meaning old.model) old.nodes old.known reply.fossils
  pub unchanged : new ≡ record old { port = new.port; known = new.known }
  pub same_event : new.refused ≡ old.refused

-- The judge refuses a reply that the port below returned: its reports are not all accepted, and the
-- judge keeps the event of the first that is not.
pub record IsRefused {M P : Type 0} (meaning : M → Meaning) (state : P → PortState)
    (old new : Judged M P) (fault : PortFault) : Type 0 where
  pub fault_is : fault ≡ BadReply
  pub reply : Reply
  pub taken : IsTakenBelow (state old.port) (state new.port) reply
  pub differs : (ks : List Known) →
      AreJudged (meaning old.model) old.every old.nodes old.known reply.fossils ks → ⊥
  pub event : ReportDifference
  pub first : IsFirstRefused (meaning old.model) old.every old.nodes old.known reply.fossils event
  pub kept : new.refused ≡ Some event

-- A reply is not passed on: the judge refuses it, or the port below has ended, by a fault of its own.
pub record TakeHasCause {M P : Type 0} (meaning : M → Meaning) (state : P → PortState)
    (old new : Judged M P) (fault : PortFault) : Type 0 where
  pub refused : (state new.port).stage ≡ Idle → IsRefused meaning state old new fault
  pub same_event : (state new.port).stage ≡ Ended → new.refused ≡ old.refused
  pub below : (parcel : Parcel) → (state old.port).stage ≡ Posted parcel →
      (state old.port).faithful ≡ true → (state new.port).stage ≡ Ended →
      IsTakeFault parcel (state old.port) fault
