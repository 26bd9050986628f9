use Rattle.std.proofs.Common.{◌≡◌, map}
use Rattle.circuit.specs.Circuit.{circuit_meaning, netlist_of}
use Rattle.model.specs.World.{below}
use Rattle.circuit.proofs.waves.start_states.Given as goal

abbrev pub invariant-loop-lp : goal.invariant-loop-lp
invariant-loop-lp l =
    let n = netlist_of l.circuit.gates.items l.circuit.wires.items l.circuit.digest in
    map (λ s. s.items) l.states.items ≡ map (circuit_meaning n).start_state (below l.lp)
