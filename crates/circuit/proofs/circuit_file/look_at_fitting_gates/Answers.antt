use Rattle.std.proofs.Common.{◌++◌, codes}
use Rattle.circuit.specs.Circuit.{is_gate}
use Rattle.circuit.specs.CircuitFile.{unfit}
use Rattle.circuit.proofs.Right.{unfit_done, unfit_more}
use Rattle.circuit.proofs.circuit_file.look_at_fitting_gates.Goals as goal

pub gates-preserved : goal.gates-preserved
gates-preserved c =
    unfit_more (is_gate c.args.wires) (codes "gates") (codes "a delay, and at most 8 of the listed wires") c.args.gates.now c.gates.place
    _ c.gates-test.true c.is_gate.result c.is_gate.ensures.test c.gates.found c.item_at.new.self
    (c.args.found.now ++ unfit (is_gate c.args.wires) (codes "gates") (codes "a delay, and at most 8 of the listed wires") 0 c.args.gates.now)
    c.in_ok-item_at.ensures c.gates.invariant

pub returns : goal.returns
returns c =
    unfit_done (is_gate c.args.wires) (codes "gates") (codes "a delay, and at most 8 of the listed wires") c.args.gates.now c.gates.place c.gates-test.false c.gates.found
    (c.args.found.now ++ unfit (is_gate c.args.wires) (codes "gates") (codes "a delay, and at most 8 of the listed wires") 0 c.args.gates.now) c.gates.invariant
