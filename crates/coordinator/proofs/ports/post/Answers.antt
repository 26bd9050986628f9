use Rattle.coordinator.proofs.PortStates.{port-changes}
use Rattle.coordinator.specs.Ports.{IsPost}
use Rattle.coordinator.proofs.ports.post.Goals as goal

pub returns-clause-changes : goal.returns-clause-changes
returns-clause-changes g c =
    let says : IsPost c.args.parcel c.post.result (g.P.Port.state c.index_mut-port.result.now) (g.P.Port.state c.post.new.self) = record { posted = c.post.ensures.posted; ok = c.post.ensures.ok; err = c.post.ensures.err } in
    port-changes g.P.Port.state (IsPost c.args.parcel c.post.result) c.args.ports.now.items c.args.node c.index_mut-port.result.now c.post.new.self c.requires.there c.index_mut-port.ensures.value c.post.ensures.same says
