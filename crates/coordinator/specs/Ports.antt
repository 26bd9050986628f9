-- A call to the port of one node of a session.
use Rattle.std.specs.Prelude.{IfErr, IfOk, List, OnOk, Result, set, true, ℕ, ◌≡◌}
use Rattle.node.specs.declared.Load.{Load}
use Rattle.node.specs.declared.Parcel.{Parcel}
use Rattle.node.specs.declared.Reply.{Reply}
use Rattle.wire.specs.Port.{IsLoadFault, IsLoaded, IsResourceFault, IsSamePort, IsTakeFault}
use Rattle.wire.specs.Port.{IsTaken, PortState}
use Rattle.wire.specs.Port.Stage.{Idle, Posted}
use Rattle.wire.specs.declared.port.PortFault.{PortFault}
use Rattle.coordinator.specs.Session.{port_at}

-- The ports before and after a call to that of one node: no other changes, that one stays the same
-- port, and what the call says of a port holds of it.
pub record PortChanges (Says : PortState → PortState → Type 0) (old new : List PortState)
    (node : ℕ) : Type 0 where
  pub others : new ≡ set old node (port_at new node)
  pub same : IsSamePort (port_at old node) (port_at new node)
  pub says : Says (port_at old node) (port_at new node)

-- the load of a node, with this result
pub record IsLoad (load : Load) (result : Result (Unit {0}) PortFault)
    (old new : PortState) : Type 0 where
  pub idle : OnOk result (new.stage ≡ Idle)
  pub ok : old.faithful ≡ true → OnOk result (IsLoaded load old new)
  pub err : old.faithful ≡ true → IfErr result (λ fault. IsLoadFault load old fault)

-- the post of a parcel, with this result
pub record IsPost (parcel : Parcel) (result : Result (Unit {0}) PortFault)
    (old new : PortState) : Type 0 where
  pub posted : OnOk result (new.stage ≡ Posted parcel)
  pub ok : old.faithful ≡ true → OnOk result (new.node ≡ old.node)
  pub err : old.faithful ≡ true → IfErr result (λ fault. IsResourceFault old fault)

-- the take of a reply, with this result
pub record IsTake (result : Result Reply PortFault) (old new : PortState) : Type 0 where
  pub idle : OnOk result (new.stage ≡ Idle)
  pub ok : (parcel : Parcel) → old.stage ≡ Posted parcel → old.faithful ≡ true →
      IfOk result (λ reply. IsTaken parcel old new reply)
  pub err : (parcel : Parcel) → old.stage ≡ Posted parcel → old.faithful ≡ true →
      IfErr result (λ fault. IsTakeFault parcel old fault)
