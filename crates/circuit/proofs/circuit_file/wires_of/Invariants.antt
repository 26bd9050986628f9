use Rattle.std.proofs.Common.{option_and_then}
use Rattle.circuit.specs.CircuitFile.{wire_of}
use Rattle.toml.specs.Data.{as_table}
use Rattle.circuit.proofs.Items.{HasRead}
use Rattle.circuit.proofs.circuit_file.wires_of.Given as goal

abbrev pub invariant-loop-item : goal.invariant-loop-item
invariant-loop-item l = HasRead (λ d. option_and_then wire_of (as_table d)) l.items l.wires.items l.item-index
