use Rattle.std.proofs.Common.{◌≡◌, ◌++◌, codes, drop}
use Rattle.circuit.specs.Circuit.{is_gate}
use Rattle.circuit.specs.CircuitFile.{unfit}
use Rattle.circuit.proofs.circuit_file.look_at_fitting_gates.Given as goal

abbrev pub invariant-gates : goal.invariant-gates
invariant-gates l =
    l.found ++ unfit (is_gate l.wires) (codes "gates") (codes "a delay, and at most 8 of the listed wires") l.place (drop l.place l.gates)
    ≡ l.initial.found ++ unfit (is_gate l.wires) (codes "gates") (codes "a delay, and at most 8 of the listed wires") 0 l.gates
