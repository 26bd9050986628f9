use Rattle.std.proofs.Common.{◌++◌, codes}
use Rattle.circuit.specs.CircuitFile.{fits_gate, items_wrong}
use Rattle.circuit.proofs.Right.{items_done, items_more}
use Rattle.toml.specs.View.{items_view}
use Rattle.circuit.proofs.circuit_file.look_at_gate_items.Goals as goal

pub items-preserved : goal.items-preserved
items-preserved c =
    items_more fits_gate (codes "gates") (codes "a table with table, delay, first and count, and perhaps a name without blanks") c.args.items.now c.items.place
    c.index-items-place.result c.items-test.true c.index-items-place.is c.fits_gate.result c.fits_gate.ensures c.found_in.result c.found_in.ensures c.items.found c.item_at.new.self
    (c.args.found.now ++ items_wrong fits_gate (codes "gates") (codes "a table with table, delay, first and count, and perhaps a name without blanks") 0 (items_view c.args.items.now))
    c.in_ok-item_at.ensures c.items.invariant

pub returns : goal.returns
returns c =
    items_done fits_gate (codes "gates") (codes "a table with table, delay, first and count, and perhaps a name without blanks") c.args.items.now c.items.place c.items-test.false c.items.found
    (c.args.found.now ++ items_wrong fits_gate (codes "gates") (codes "a table with table, delay, first and count, and perhaps a name without blanks") 0 (items_view c.args.items.now)) c.items.invariant
