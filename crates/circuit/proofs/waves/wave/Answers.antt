use Rattle.std.proofs.Common.{arith}
use Rattle.std.specs.Option.{option_map}
use Rattle.circuit.specs.Circuit.{netlist_of}
use Rattle.circuit.proofs.Texts.{begun_so}
use Rattle.circuit.proofs.waves.wave.Goals as goal

pub put_states-requires : goal.put_states-requires
put_states-requires c =
    let circuit = c.args.circuit.now in
    let n = netlist_of circuit.gates.items circuit.wires.items circuit.digest in
    let begun = begun_so (λ s. s.items) n (option_map (λ o. o.now) c.args.origin) circuit.good c.requires c.in_ok-states.states.items c.in_ok-states.ensures in
    let few = circuit.good.few in
    let each = begun.0 in
    rw c.as_slice.ensures.value (omega (arith, few, each))

pub put_events-requires-clause-each : goal.put_events-requires-clause-each
put_events-requires-clause-each c =
    let circuit = c.args.circuit.now in
    let n = netlist_of circuit.gates.items circuit.wires.items circuit.digest in
    (begun_so (λ s. s.items) n (option_map (λ o. o.now) c.args.origin) circuit.good c.requires c.in_ok-states.states.items c.in_ok-states.ensures).0

pub put_events-requires-clause-few : goal.put_events-requires-clause-few
put_events-requires-clause-few c =
    let circuit = c.args.circuit.now in
    let n = netlist_of circuit.gates.items circuit.wires.items circuit.digest in
    (begun_so (λ s. s.items) n (option_map (λ o. o.now) c.args.origin) circuit.good c.requires c.in_ok-states.states.items c.in_ok-states.ensures).1
