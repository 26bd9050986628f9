-- The faults of a session's ports, by the type of the ports.
use Rattle.std.proofs.Common.{List, [], inl, inr, map, refl, suc, zero, ℕ, ◌∷◌, ◌≡◌}
use Rattle.std.proofs.lemmas.Bool.{cases_Bool}
use Rattle.disk.specs.Disk.{DiskState}
use Rattle.model.specs.Meaning.{Meaning}
use Rattle.node.specs.declared.NodeFault.TheVariants as node
use Rattle.gvt.specs.Moves.{Move}
use Rattle.gvt.specs.Moves.Move.{Checkpoint, Commit, Post, Take}
use Rattle.wire.specs.Local.{Local, state_by}
use Rattle.wire.specs.Port.{IsResourceFault, PortState}
use Rattle.wire.specs.declared.port.PortFault.{PortFault}
use Rattle.wire.specs.declared.port.PortFault.TheVariants.{Peer, Wire}
use Rattle.wire.specs.declared.port.WireFault.TheVariants as wire
use Rattle.coordinator.specs.PortFaults.{IsFaultInProgram, IsFaultOfPorts, LocalSessionsHaveNoFrames, StepsHaveFaultsOfPorts}
use Rattle.coordinator.specs.Session.{no_port, port_at}
use Rattle.coordinator.specs.Steps.{move_of, port_called}

-- a port that does not exist has no fault
none-nobody : (fault : PortFault) → IsResourceFault no_port fault → ⊥
none-nobody (Wire wire.NoMemory) is = cc
none-nobody (Wire wire.TooLong) is = cc
none-nobody (Peer node.NoMemory) is = cc
none-nobody fault is = is

module _ {P : Type 0} (state : P → PortState) where
  -- a fault of one of these ports is one of a port of this type
  pub some-port : (ports : List P) (k : ℕ) (fault : PortFault) → IsResourceFault (port_at (map state ports) k) fault → (p : P) × IsResourceFault (state p) fault
  some-port [] k fault is = absurd (none-nobody fault is)
  some-port (p ∷ ps) zero fault is = (p, is)
  some-port (p ∷ ps) (suc k) fault is = some-port ps k fault is

  called-port : (ports : List P) (k : Move) (fault : PortFault) → IsResourceFault (port_called k (map state ports)) fault → (p : P) × IsResourceFault (state p) fault
  called-port ports (Post n picks budget) fault is = some-port ports n fault is
  called-port ports (Take n) fault is = some-port ports n fault is
  called-port ports Commit fault is = absurd (none-nobody fault is)
  called-port ports Checkpoint fault is = absurd (none-nobody fault is)

  module _ {M D : Type 0} (meaning : M → Meaning) (disk : D → DiskState) where
    pub steps-faults : StepsHaveFaultsOfPorts meaning state disk
    steps-faults step old new fault consistent is = elim (cases_Bool old.spent) [
      | inl spent ↦ absurd (let other = is.spent.1 spent in cc)
      | inr usable ↦ elim ((is.cause usable).2 consistent) [
        | inl resource ↦ inl (called-port old.ports (move_of step) fault resource)
        | inr limit ↦ inr limit.0
      ]
    ]

-- Nodes in this program

module _ {M : Type 0} (meaning : M → Meaning) where
  local-resource : (p : Local M) (fault : PortFault) → IsResourceFault (state_by meaning p) fault → fault ≡ Peer node.NoMemory
  local-resource p (Wire wire.NoMemory) is = absurd (cc)
  local-resource p (Wire wire.TooLong) is = absurd (cc)
  local-resource p (Peer node.NoMemory) is = refl
  local-resource p fault is = absurd is

  pub local-faults : (fault : PortFault) → IsFaultOfPorts (state_by meaning) fault → IsFaultInProgram fault
  local-faults fault is = elim is [
    | inl port ↦ inl (local-resource port.0 fault port.1)
    | inr limit ↦ inr limit
  ]

  pub local_sessions : {D : Type 0} (disk : D → DiskState) → LocalSessionsHaveNoFrames D meaning disk
  local_sessions disk = record {
    steps = λ step old new fault consistent is. local-faults fault (steps-faults (state_by meaning) meaning disk step old new fault consistent is);
    openings = λ ports fault is. let found = some-port (state_by meaning) ports is.0 fault is.2 in local-resource found.0 fault found.1;
  }
