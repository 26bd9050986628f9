use Rattle.std.proofs.Common.{◌≡◌, ◌++◌, codes, drop}
use Rattle.circuit.specs.CircuitFile.{fits_gate, items_wrong}
use Rattle.toml.specs.View.{items_view}
use Rattle.circuit.proofs.circuit_file.look_at_gate_items.Given as goal

abbrev pub invariant-items : goal.invariant-items
invariant-items l =
    l.found ++ items_wrong fits_gate (codes "gates") (codes "a table with table, delay, first and count, and perhaps a name without blanks") l.place (items_view (drop l.place l.items))
    ≡ l.initial.found ++ items_wrong fits_gate (codes "gates") (codes "a table with table, delay, first and count, and perhaps a name without blanks") 0 (items_view l.items)
