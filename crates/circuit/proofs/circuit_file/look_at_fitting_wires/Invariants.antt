use Rattle.std.proofs.Common.{◌≡◌, ◌++◌, codes, drop}
use Rattle.circuit.specs.Circuit.{is_wire}
use Rattle.circuit.specs.CircuitFile.{unfit}
use Rattle.circuit.proofs.circuit_file.look_at_fitting_wires.Given as goal

abbrev pub invariant-wires : goal.invariant-wires
invariant-wires l =
    l.found ++ unfit (is_wire l.gates) (codes "wires") (codes "a wire to one of the listed gates") l.place (drop l.place l.wires)
    ≡ l.initial.found ++ unfit (is_wire l.gates) (codes "wires") (codes "a wire to one of the listed gates") 0 l.wires
