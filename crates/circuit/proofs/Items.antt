-- Reading each item of a list.
use Rattle.std.specs.Prelude.{◌≡◌, ℕ, List, ◌++◌, Option, drop, option_map}
use Rattle.toml.specs.Data.{Data}
use Rattle.toml.specs.View.{items_view}
use Rattle.toml.specs.declared.value.Value.{Value}
use Rattle.circuit.specs.CircuitFile.{all_of}

-- what was read so far, and the rest, are the whole
abbrev pub HasRead : {X : Type 0} → (Data → Option X) → List Value → List X → ℕ → Type 0
HasRead read vs xs i =
    option_map (λ ys. xs ++ ys) (all_of read (items_view (drop i vs))) ≡ all_of read (items_view vs)
