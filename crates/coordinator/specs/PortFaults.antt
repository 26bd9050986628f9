-- Which faults the ports of a session can have, by the type of the ports.
use Rattle.std.specs.Prelude.{Err, List, map, ◌≡◌, ◌⊎◌}
use Rattle.disk.specs.Disk.{DiskState}
use Rattle.model.specs.Meaning.{Meaning}
use Rattle.node.specs.declared.NodeFault.TheVariants as node
use Rattle.wire.specs.Local.{Local, state_by}
use Rattle.wire.specs.Port.{IsResourceFault, PortState}
use Rattle.wire.specs.declared.port.PortFault.{PortFault}
use Rattle.wire.specs.declared.port.PortFault.TheVariants.{Peer}
use Rattle.coordinator.specs.Drives.{IsStep}
use Rattle.coordinator.specs.Opening.{IsResourceFaultOfOne}
use Rattle.coordinator.specs.Session.{IsConsistentSession, Session, running}
use Rattle.coordinator.specs.declared.SessionFault.TheVariants.{Port}
use Rattle.coordinator.specs.declared.Step.{Step}

-- a fault that the ports of a consistent session can have: a resource fault of a port of this type,
-- or a handling would pass the number limit
abbrev pub IsFaultOfPorts : {P : Type 0} → (P → PortState) → PortFault → Type 0
IsFaultOfPorts {P = P} state fault =
    ((p : P) × IsResourceFault (state p) fault) ⊎ (fault ≡ Peer node.NumberLimit)

-- the same where every node is in this program: nothing passes as a frame
abbrev pub IsFaultInProgram : PortFault → Type 0
IsFaultInProgram fault = (fault ≡ Peer node.NoMemory) ⊎ (fault ≡ Peer node.NumberLimit)

module _ {M P D : Type 0} (meaning : M → Meaning) (state : P → PortState) (disk : D →
    DiskState) where
  -- a step of a consistent session over these ports has no other fault of a port
  abbrev pub StepsHaveFaultsOfPorts : Type 0
  StepsHaveFaultsOfPorts = (step : Step) (old new : Session M P D) (fault : PortFault) →
      IsConsistentSession (running meaning state old) →
      IsStep meaning state disk step old new (Err (Port fault)) → IsFaultOfPorts state fault

module _ {M : Type 0} (D : Type 0) (meaning : M → Meaning) (disk : D → DiskState) where
  -- Over nodes in this program, no step of a consistent session and no opening has a fault of a
  -- frame.
  pub record LocalSessionsHaveNoFrames : Type 0 where
    pub steps : (step : Step) (old new : Session M (Local M) D) (fault : PortFault) →
        IsConsistentSession (running meaning (state_by meaning) old) →
        IsStep meaning (state_by meaning) disk step old new (Err (Port fault)) →
        IsFaultInProgram fault
    pub openings : (ports : List (Local M)) (fault : PortFault) →
        IsResourceFaultOfOne (map (state_by meaning) ports) fault → fault ≡ Peer node.NoMemory
