use Rattle.std.proofs.Common.{◌≡◌, ◌++◌, drop, map, option_and_then}
use Rattle.std.specs.Prelude.{option_map, string_bytes}
use Rattle.circuit.specs.CircuitFile.{all_of, name_of}
use Rattle.toml.specs.Data.{as_table}
use Rattle.toml.specs.View.{items_view}
use Rattle.circuit.proofs.circuit_file.names_of.Given as goal

abbrev pub invariant-loop-item : goal.invariant-loop-item
invariant-loop-item l = option_map (λ ys. map string_bytes l.names.items ++ ys) (all_of (λ d. option_and_then name_of (as_table d)) (items_view (drop l.item-index l.items)))
    ≡ all_of (λ d. option_and_then name_of (as_table d)) (items_view l.items)
