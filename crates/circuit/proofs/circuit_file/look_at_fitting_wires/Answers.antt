use Rattle.std.proofs.Common.{◌++◌, codes}
use Rattle.circuit.specs.Circuit.{is_wire}
use Rattle.circuit.specs.CircuitFile.{unfit}
use Rattle.circuit.proofs.Right.{unfit_done, unfit_more}
use Rattle.circuit.proofs.circuit_file.look_at_fitting_wires.Goals as goal

pub wires-preserved : goal.wires-preserved
wires-preserved c =
    unfit_more (is_wire c.args.gates) (codes "wires") (codes "a wire to one of the listed gates") c.args.wires.now c.wires.place
    _ c.wires-test.true c.is_wire.result c.is_wire.ensures.test c.wires.found c.item_at.new.self
    (c.args.found.now ++ unfit (is_wire c.args.gates) (codes "wires") (codes "a wire to one of the listed gates") 0 c.args.wires.now)
    c.in_ok-item_at.ensures c.wires.invariant

pub returns : goal.returns
returns c =
    unfit_done (is_wire c.args.gates) (codes "wires") (codes "a wire to one of the listed gates") c.args.wires.now c.wires.place c.wires-test.false c.wires.found
    (c.args.found.now ++ unfit (is_wire c.args.gates) (codes "wires") (codes "a wire to one of the listed gates") 0 c.args.wires.now) c.wires.invariant
