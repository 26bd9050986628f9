use Rattle.coordinator.proofs.PortStates.{port-changes}
use Rattle.coordinator.specs.Ports.{IsTake}
use Rattle.coordinator.proofs.ports.take.Goals as goal

pub returns-clause-changes : goal.returns-clause-changes
returns-clause-changes g c =
    let says : IsTake c.take.result (g.P.Port.state c.index_mut-port.result.now) (g.P.Port.state c.take.new.self) = record { idle = c.take.ensures.idle; ok = c.take.ensures.ok; err = c.take.ensures.err } in
    port-changes g.P.Port.state (IsTake c.take.result) c.args.ports.now.items c.args.node c.index_mut-port.result.now c.take.new.self c.requires.there c.index_mut-port.ensures.value c.take.ensures.same says
