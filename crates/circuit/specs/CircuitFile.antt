-- What the table of a circuit's model file means: it has exactly `end`, and lists of gates and of
-- wires. And all that is wrong with any other table.
use Rattle.std.specs.Prelude.{◌≡◌, ℕ, ◌+◌, ◌-◌, ◌^◌, List, [], ◌∷◌, ◌++◌, Option, Some, None, codes}
use Rattle.std.specs.Prelude.{length}
use Rattle.std.specs.Prelude.{Bool, false, ◌&&◌, ◌==◌, if◌then◌else◌, is_some, map, nat_le, not}
use Rattle.std.specs.Prelude.{option_and_then, option_map}
use Rattle.std.specs.Prelude.{string_bytes}
use Rattle.std.specs.List.{list_all}
use Rattle.circuit.specs.Circuit.{is_gate, is_wire}
use Rattle.circuit.specs.declared.circuit.Circuit.{Circuit}
use Rattle.circuit.specs.declared.parts.Gate.{Gate}
use Rattle.circuit.specs.declared.parts.Wire.{Wire}
use Rattle.texts.specs.AnyModel.{line_then}
use Rattle.texts.specs.ModelFile.{Wrong, found_of, item_wrong, number_at, number_key, numbers_wrong}
use Rattle.texts.specs.ModelFile.{unknown_wrong, words_wrong}
use Rattle.texts.specs.declared.findings.Found.TheVariants as found
use Rattle.toml.specs.Data.{Data, Items, Members, as_array, as_str, as_table, get_member, item}
use Rattle.toml.specs.Data.{no_items}

-- what is read from each item, if every item can be read
abbrev pub all_of : {X : Type 0} → (Data → Option X) → Items → Option (List X)
all_of read no_items = Some []
all_of read (item d ds) =
    option_and_then (λ x. option_map (λ xs. x ∷ xs) (all_of read ds)) (read d)

-- a number of 32 bits at a key
abbrev pub small_at : List ℕ → Members → Option ℕ
small_at key table = number_at key 0 (2 ^ 32 - 1) table

-- the gate of a table with these four numbers
abbrev pub gate_of : Members → Option Gate
gate_of t = option_and_then (λ table. option_and_then (λ delay. option_and_then (λ first.
    option_map (λ count. record { table = table; delay = delay; first = first; count = count })
    (small_at (codes "count") t)) (small_at (codes "first") t)) (small_at (codes "delay") t))
    (small_at (codes "table") t)

-- a name has at least one character, and only printable ASCII characters other than blanks
abbrev pub is_printable : ℕ → Bool
is_printable byte = nat_le 33 byte && nat_le byte 126

abbrev pub is_name : List ℕ → Bool
is_name text = not (length text == 0) && list_all is_printable text

-- the name in a value
abbrev pub name_in : Data → Option (List ℕ)
name_in d = option_and_then (λ text. if is_name text then Some text else None) (as_str d)

-- the name at a key, or an empty one if the key is missing
abbrev pub name_or_none : Option Data → Option (List ℕ)
name_or_none None = Some []
name_or_none (Some d) = name_in d

-- the name of a gate's table
abbrev pub name_of : Members → Option (List ℕ)
name_of t = name_or_none (get_member (codes "name") t)

-- the wire of a table with these two numbers
abbrev pub wire_of : Members → Option Wire
wire_of t = option_and_then (λ to. option_map (λ pin. record { to = to; pin = pin })
    (small_at (codes "pin") t)) (small_at (codes "to") t)

-- what is read from each table of the list at a key
abbrev pub list_at : {X : Type 0} → (Members → Option X) → List ℕ → Members → Option (List X)
list_at read key table = option_and_then (all_of (λ d. option_and_then read (as_table d)))
    (option_and_then as_array (get_member key table))

-- the keys of a circuit
abbrev pub circuit_keys : List (List ℕ)
circuit_keys = codes "end" ∷ codes "gates" ∷ codes "wires" ∷ []

-- the table describes this circuit, run to this end
pub record IsCircuitTable (table : Members) (c : Circuit) (end : ℕ) : Type 0 where
  pub last : number_at (codes "end") 1 (2 ^ 40) table ≡ Some end
  pub gates : list_at gate_of (codes "gates") table ≡ Some c.gates.items
  pub wires : list_at wire_of (codes "wires") table ≡ Some c.wires.items
  pub names : list_at name_of (codes "gates") table ≡ Some (map string_bytes c.names.items)
  pub only : unknown_wrong circuit_keys table ≡ []

-- ---- what is wrong with a table

-- whether an item is the table of a gate, with or without a name
abbrev pub fits_gate : Data → Bool
fits_gate d = is_some (option_and_then gate_of (as_table d))
    && is_some (option_and_then name_of (as_table d))

-- whether an item is the table of a wire
abbrev pub fits_wire : Data → Bool
fits_wire d = is_some (option_and_then wire_of (as_table d))

-- a mistake for each item of a list that does not fit; `place` is the place of the first item
unfoldable pub items_wrong : (Data → Bool) → List ℕ → List ℕ → ℕ → Items → List Wrong
items_wrong fits key text place no_items = []
items_wrong fits key text place (item d ds) =
    item_wrong (fits d) key place (found_of (Some d)) text ++ items_wrong fits key text (place + 1)
    ds

-- what is wrong with the list of gates, and with that of wires

abbrev pub gates_wrong : Members → Option Items → List Wrong
gates_wrong t None =
    words_wrong false (codes "gates") (codes "a list of tables with table, delay, first and count")
    t
gates_wrong t (Some ds) = items_wrong fits_gate (codes "gates")
    (codes "a table with table, delay, first and count, and perhaps a name without blanks") 0 ds

abbrev pub wires_wrong : Members → Option Items → List Wrong
wires_wrong t None = words_wrong false (codes "wires") (codes "a list of tables with to and pin") t
wires_wrong t (Some ds) =
    items_wrong fits_wire (codes "wires") (codes "a table with to and pin") 0 ds

-- a mistake for each part that does not fit; `place` is the place of the first part
unfoldable pub unfit : {X : Type 0} → (X → Bool) → List ℕ → List ℕ → ℕ → List X → List Wrong
unfit fits key text place [] = []
unfit fits key text place (x ∷ xs) =
    item_wrong (fits x) key place found.Table text ++ unfit fits key text (place + 1) xs

-- What is wrong with gates and wires that were read: there are no gates or too many, or one of the
-- gates or wires does not fit the others.
abbrev pub netlist_wrong : List Gate → List Wire → Members → List Wrong
netlist_wrong gates wires t =
    words_wrong (nat_le 1 (length gates) && nat_le (length gates) 1024) (codes "gates")
    (codes "1 to 1024 gates") t
    ++ unfit (is_gate (length wires)) (codes "gates")
    (codes "a delay, and at most 8 of the listed wires") 0 gates
    ++ unfit (is_wire (length gates)) (codes "wires") (codes "a wire to one of the listed gates") 0
    wires

abbrev pub parts_wrong : Option (List Gate) → Option (List Wire) → Members → List Wrong
parts_wrong None wires t = []
parts_wrong (Some gates) None t = []
parts_wrong (Some gates) (Some wires) t = netlist_wrong gates wires t

-- the list at a key
abbrev pub items_at : List ℕ → Members → Option Items
items_at key t = option_and_then as_array (get_member key t)

-- what is wrong with the table of a circuit
abbrev pub circuit_wrong : Members → List Wrong
circuit_wrong t = numbers_wrong (number_key (codes "end") 1 (2 ^ 40) ∷ []) t
    ++ gates_wrong t (items_at (codes "gates") t)
    ++ wires_wrong t (items_at (codes "wires") t)
    ++ parts_wrong (list_at gate_of (codes "gates") t) (list_at wire_of (codes "wires") t) t
    ++ unknown_wrong circuit_keys t

-- the end, and the numbers of gates and wires
abbrev pub circuit_text : Circuit → ℕ → List ℕ
circuit_text c end = line_then (codes "end") end
    (line_then (codes "gates") (length c.gates.items)
    (line_then (codes "wires") (length c.wires.items) []))
