use Rattle.std.proofs.Common.{◌≡◌, ◌++◌, codes, drop}
use Rattle.circuit.specs.CircuitFile.{fits_wire, items_wrong}
use Rattle.toml.specs.View.{items_view}
use Rattle.circuit.proofs.circuit_file.look_at_wire_items.Given as goal

abbrev pub invariant-items : goal.invariant-items
invariant-items l =
    l.found ++ items_wrong fits_wire (codes "wires") (codes "a table with to and pin") l.place (items_view (drop l.place l.items))
    ≡ l.initial.found ++ items_wrong fits_wire (codes "wires") (codes "a table with to and pin") 0 (items_view l.items)
