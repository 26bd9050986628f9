use Rattle.std.proofs.Common.{option_and_then}
use Rattle.circuit.specs.CircuitFile.{gate_of}
use Rattle.toml.specs.Data.{as_table}
use Rattle.circuit.proofs.Items.{HasRead}
use Rattle.circuit.proofs.circuit_file.gates_of.Given as goal

abbrev pub invariant-loop-item : goal.invariant-loop-item
invariant-loop-item l = HasRead (λ d. option_and_then gate_of (as_table d)) l.items l.gates.items l.item-index
