-- Tables of circuits, item by item, and tables without mistakes.
use Rattle.std.specs.List.{AllByRecursion as Every}
use Rattle.std.proofs.Common.{◌≡◌, ℕ, ◌+◌, ◌^◌, ◌<◌, ◌≤◌, ◌&&◌, nat_le, nat_lt, List, [], ◌∷◌, ◌++◌, Bool, true, false, Option, Some, None, is_some, option_and_then, option_map, codes, length, map, get_or, drop, string_bytes, refl, ap, sym, ◌∙◌, append-nil, append_assoc, lit<}
use Rattle.std.proofs.lemmas.Bool.{and_parts, le-leb, leb-true, lt-ltb, ltb-true}
use Rattle.std.proofs.lemmas.List.{drop_all, drop_more}
use Rattle.circuit.specs.Circuit.{IsGate, IsNetlist, IsWire, is_gate, is_wire, netlist_of}
use Rattle.circuit.specs.CircuitFile.{IsCircuitTable, all_of, circuit_keys, circuit_wrong, fits_gate, fits_wire, gate_of, gates_wrong, items_at, items_wrong, list_at, name_of, netlist_wrong, parts_wrong, unfit, wire_of, wires_wrong}
use Rattle.circuit.specs.declared.circuit.Circuit.{Circuit}
use Rattle.circuit.specs.declared.parts.Gate.{Gate}
use Rattle.circuit.specs.declared.parts.Wire.{Wire}
use Rattle.eventkey.proofs.Lists.{Every-get_or, some_of}
use Rattle.eventkey.proofs.Times.{Every-from_get_or}
use Rattle.texts.proofs.Right.{item_right, item_there, none_before, none_behind, numbers_right, numbers_there, words_right, words_there}
use Rattle.texts.specs.ModelFile.{Wrong, found_of, item_wrong, number_at, number_key, numbers_wrong, unknown_wrong, words_wrong}
use Rattle.texts.specs.declared.findings.Found.{Found}
use Rattle.texts.specs.declared.findings.Found.TheVariants as found
use Rattle.toml.proofs.Views.{items_view-drop}
use Rattle.toml.specs.Data.{Data, Items, Members, as_table, item, no_items}
use Rattle.toml.specs.View.{items_view, view}
use Rattle.toml.specs.declared.value.Value.{Value}

-- 1. Item by item

-- the mistakes before an item, at it and after it are all mistakes
carried : (was now here behind from all : List Wrong) → now ≡ was ++ here → from ≡ here ++ behind → was ++ from ≡ all → now ++ behind ≡ all
carried was now here behind from all more split so_far =
    ap (λ l. l ++ behind) more ∙ append_assoc was here behind ∙ ap (λ l. was ++ l) (sym split) ∙ so_far

module _ (fits : Data → Bool) (key text : List ℕ) (vs : List Value) (place : ℕ) where
  items_next : (v : Value) → place < length vs → v ≡ get_or vs place v → items_wrong fits key text place (items_view (drop place vs))
      ≡ item_wrong (fits (view v)) key place (found_of (Some (view v))) text ++ items_wrong fits key text (place + 1) (items_view (drop (place + 1) vs))
  unfolding items_wrong
  items_next v inside is =
      ap (items_wrong fits key text place) (items_view-drop vs place v inside ∙ ap (λ w. item (view w) (items_view (drop (place + 1) vs))) (sym is))

  -- one more item
  pub items_more : (v : Value) → place < length vs → v ≡ get_or vs place v → (b : Bool) → b ≡ fits (view v) → (what : Found) → what ≡ found_of (Some (view v))
      → (was now all : List Wrong) → now ≡ was ++ item_wrong b key place what text
      → was ++ items_wrong fits key text place (items_view (drop place vs)) ≡ all
      → now ++ items_wrong fits key text (place + 1) (items_view (drop (place + 1) vs)) ≡ all
  items_more v inside is b fit what there was now all more so_far =
      carried was now (item_wrong (fits (view v)) key place (found_of (Some (view v))) text) (items_wrong fits key text (place + 1) (items_view (drop (place + 1) vs)))
      (items_wrong fits key text place (items_view (drop place vs))) all
      (more ∙ ap (λ c. was ++ item_wrong c key place what text) fit ∙ ap (λ f. was ++ item_wrong (fits (view v)) key place f text) there)
      (items_next v inside is) so_far

  -- no item is left
  pub items_done : length vs ≤ place → (was all : List Wrong) → was ++ items_wrong fits key text place (items_view (drop place vs)) ≡ all → was ≡ all
  unfolding items_wrong
  items_done late was all so_far =
      sym (append-nil was) ∙ ap (λ us. was ++ items_wrong fits key text place (items_view us)) (sym (drop_all place vs late)) ∙ so_far

module _ {X : Type 0} (fits : X → Bool) (key text : List ℕ) (xs : List X) (place : ℕ) where
  unfit_next : (d : X) → place < length xs → unfit fits key text place (drop place xs)
      ≡ item_wrong (fits (get_or xs place d)) key place found.Table text ++ unfit fits key text (place + 1) (drop (place + 1) xs)
  unfolding unfit
  unfit_next d inside = ap (unfit fits key text place) (drop_more xs place d inside)

  -- one more part
  pub unfit_more : (d : X) → place < length xs → (b : Bool) → b ≡ fits (get_or xs place d) → (was now all : List Wrong)
      → now ≡ was ++ item_wrong b key place found.Table text
      → was ++ unfit fits key text place (drop place xs) ≡ all → now ++ unfit fits key text (place + 1) (drop (place + 1) xs) ≡ all
  unfit_more d inside b fit was now all more so_far =
      carried was now (item_wrong (fits (get_or xs place d)) key place found.Table text) (unfit fits key text (place + 1) (drop (place + 1) xs))
      (unfit fits key text place (drop place xs)) all (more ∙ ap (λ c. was ++ item_wrong c key place found.Table text) fit) (unfit_next d inside) so_far

  -- no part is left
  pub unfit_done : length xs ≤ place → (was all : List Wrong) → was ++ unfit fits key text place (drop place xs) ≡ all → was ≡ all
  unfolding unfit
  unfit_done late was all so_far = sym (append-nil was) ∙ ap (λ ys. was ++ unfit fits key text place ys) (sym (drop_all place xs late)) ∙ so_far

-- 2. Lists that are read

read_parts : {X : Type 0} (o : Option X) (p : Option (List X)) (xs : List X) → option_and_then (λ x. option_map (λ ys. x ∷ ys) p) o ≡ Some xs
    → (x : X) × (ys : List X) × (o ≡ Some x) × (p ≡ Some ys)
read_parts None p xs is = cc
read_parts (Some x) None xs is = cc
read_parts (Some x) (Some ys) xs is = (x, ys, refl, refl)

module _ (fits : Data → Bool) (key text : List ℕ) where
  -- if each item fits, each is read
  read_all : {X : Type 0} (read : Data → Option X) → ((d : Data) → fits d ≡ true → (x : X) × (read d ≡ Some x)) → (place : ℕ) (ds : Items)
      → items_wrong fits key text place ds ≡ [] → (xs : List X) × (all_of read ds ≡ Some xs)
  unfolding items_wrong
  read_all read reads place no_items none = ([], refl)
  read_all read reads place (item d ds) none =
      let (x, x_is) = reads d (item_there (fits d) key place (found_of (Some d)) text
      (none_before (item_wrong (fits d) key place (found_of (Some d)) text) (items_wrong fits key text (place + 1) ds) none)) in
      let (xs, xs_is) = read_all read reads (place + 1) ds (none_behind (item_wrong (fits d) key place (found_of (Some d)) text) (items_wrong fits key text (place + 1) ds) none) in
      (x ∷ xs, rw (x_is, xs_is) refl)

  -- if each item is read in both ways, each fits
  fit_all : {X Y : Type 0} (read : Data → Option X) (other : Data → Option Y) → ((d : Data) (x : X) (y : Y) → read d ≡ Some x → other d ≡ Some y → fits d ≡ true)
      → (place : ℕ) (ds : Items) (xs : List X) (ys : List Y) → all_of read ds ≡ Some xs → all_of other ds ≡ Some ys → items_wrong fits key text place ds ≡ []
  unfolding items_wrong
  fit_all read other fit place no_items xs ys is_x is_y = refl
  fit_all read other fit place (item d ds) xs ys is_x is_y =
      let (x, xs', x_is, xs_is) = read_parts (read d) (all_of read ds) xs is_x in
      let (y, ys', y_is, ys_is) = read_parts (other d) (all_of other ds) ys is_y in
      rw (fit d x y x_is y_is, item_right key place (found_of (Some d)) text) (fit_all read other fit (place + 1) ds xs' ys' xs_is ys_is)

-- how items are read

abbrev gate_read : Data → Option Gate
gate_read d = option_and_then gate_of (as_table d)

abbrev name_read : Data → Option (List ℕ)
name_read d = option_and_then name_of (as_table d)

abbrev wire_read : Data → Option Wire
wire_read d = option_and_then wire_of (as_table d)

read_gate : (d : Data) → fits_gate d ≡ true → (g : Gate) × (gate_read d ≡ Some g)
read_gate d fit = some_of (gate_read d) (and_parts (is_some (gate_read d)) (is_some (name_read d)) fit).0

read_name : (d : Data) → fits_gate d ≡ true → (n : List ℕ) × (name_read d ≡ Some n)
read_name d fit = some_of (name_read d) (and_parts (is_some (gate_read d)) (is_some (name_read d)) fit).1

read_wire : (d : Data) → fits_wire d ≡ true → (w : Wire) × (wire_read d ≡ Some w)
read_wire d fit = some_of (wire_read d) fit

gate_fits : (d : Data) (g : Gate) (n : List ℕ) → gate_read d ≡ Some g → name_read d ≡ Some n → fits_gate d ≡ true
gate_fits d g n is_g is_n = rw (is_g, is_n) refl

wire_fits : (d : Data) (w v : Wire) → wire_read d ≡ Some w → wire_read d ≡ Some v → fits_wire d ≡ true
wire_fits d w v is_w is_v = rw is_w refl

-- the lists, if they have no mistakes

gates_there : (t : Members) (o : Option Items) → gates_wrong t o ≡ [] → (gs : List Gate) × (option_and_then (all_of gate_read) o ≡ Some gs)
gates_there t None none =
    let e = words_there false (codes "gates") (codes "a list of tables with table, delay, first and count") t none in cc
gates_there t (Some ds) none =
    read_all fits_gate (codes "gates") (codes "a table with table, delay, first and count, and perhaps a name without blanks") gate_read read_gate 0 ds none

names_there : (t : Members) (o : Option Items) → gates_wrong t o ≡ [] → (ns : List (List ℕ)) × (option_and_then (all_of name_read) o ≡ Some ns)
names_there t None none =
    let e = words_there false (codes "gates") (codes "a list of tables with table, delay, first and count") t none in cc
names_there t (Some ds) none =
    read_all fits_gate (codes "gates") (codes "a table with table, delay, first and count, and perhaps a name without blanks") name_read read_name 0 ds none

wires_there : (t : Members) (o : Option Items) → wires_wrong t o ≡ [] → (ws : List Wire) × (option_and_then (all_of wire_read) o ≡ Some ws)
wires_there t None none =
    let e = words_there false (codes "wires") (codes "a list of tables with to and pin") t none in cc
wires_there t (Some ds) none = read_all fits_wire (codes "wires") (codes "a table with to and pin") wire_read read_wire 0 ds none

gates_right : (t : Members) (o : Option Items) (gs : List Gate) (ns : List (List ℕ)) → option_and_then (all_of gate_read) o ≡ Some gs → option_and_then (all_of name_read) o ≡ Some ns → gates_wrong t o ≡ []
gates_right t None gs ns is_g is_n = cc
gates_right t (Some ds) gs ns is_g is_n =
    fit_all fits_gate (codes "gates") (codes "a table with table, delay, first and count, and perhaps a name without blanks") gate_read name_read gate_fits 0 ds gs ns is_g is_n

wires_right : (t : Members) (o : Option Items) (ws : List Wire) → option_and_then (all_of wire_read) o ≡ Some ws → wires_wrong t o ≡ []
wires_right t None ws is = cc
wires_right t (Some ds) ws is = fit_all fits_wire (codes "wires") (codes "a table with to and pin") wire_read wire_read wire_fits 0 ds ws ws is is

-- 3. Gates and wires together

module _ {X : Type 0} (fits : X → Bool) (key text : List ℕ) where
  unfit_none : (place : ℕ) (xs : List X) → unfit fits key text place xs ≡ [] → Every (λ x. fits x ≡ true) xs
  unfolding unfit
  unfit_none place [] none = tt
  unfit_none place (x ∷ xs) none = (
    item_there (fits x) key place found.Table text (none_before (item_wrong (fits x) key place found.Table text) (unfit fits key text (place + 1) xs) none),
    unfit_none (place + 1) xs (none_behind (item_wrong (fits x) key place found.Table text) (unfit fits key text (place + 1) xs) none),
  )

  all_fit : (place : ℕ) (xs : List X) → Every (λ x. fits x ≡ true) xs → unfit fits key text place xs ≡ []
  unfolding unfit
  all_fit place [] every = refl
  all_fit place (x ∷ xs) every = rw (every.0, item_right key place found.Table text) (all_fit (place + 1) xs every.1)

gate_holds : (wires : ℕ) (g : Gate) → is_gate wires g ≡ true → IsGate wires g
gate_holds wires g is =
    let (three, last) = and_parts (nat_le 1 g.delay && nat_lt g.delay (2 ^ 32) && nat_le g.count 8) (nat_le (g.first + g.count) wires) is in
    let (two, third) = and_parts (nat_le 1 g.delay && nat_lt g.delay (2 ^ 32)) (nat_le g.count 8) three in
    let (first, second) = and_parts (nat_le 1 g.delay) (nat_lt g.delay (2 ^ 32)) two in
    record { delay = leb-true 1 g.delay first; delay_fits = ltb-true g.delay (2 ^ 32) second; few = leb-true g.count 8 third; within = leb-true (g.first + g.count) wires last }

holds_gate : (wires : ℕ) (g : Gate) → IsGate wires g → is_gate wires g ≡ true
holds_gate wires g h =
    rw (le-leb 1 g.delay h.delay, lt-ltb g.delay (2 ^ 32) h.delay_fits, le-leb g.count 8 h.few, le-leb (g.first + g.count) wires h.within) refl

wire_holds : (gates : ℕ) (w : Wire) → is_wire gates w ≡ true → IsWire gates w
wire_holds gates w is =
    let (first, second) = and_parts (nat_lt w.to gates) (nat_lt w.pin (2 ^ 32)) is in
    record { to = ltb-true w.to gates first; pin = ltb-true w.pin (2 ^ 32) second }

holds_wire : (gates : ℕ) (w : Wire) → IsWire gates w → is_wire gates w ≡ true
holds_wire gates w h = rw (lt-ltb w.to gates h.to, lt-ltb w.pin (2 ^ 32) h.pin) refl

module _ (gs : List Gate) (ws : List Wire) (t : Members) where
  abbrev count : List Wrong
  count = words_wrong (nat_le 1 (length gs) && nat_le (length gs) 1024) (codes "gates") (codes "1 to 1024 gates") t

  abbrev gates : List Wrong
  gates = unfit (is_gate (length ws)) (codes "gates") (codes "a delay, and at most 8 of the listed wires") 0 gs

  abbrev wires : List Wrong
  wires = unfit (is_wire (length gs)) (codes "wires") (codes "a wire to one of the listed gates") 0 ws

  netlist_there : netlist_wrong gs ws t ≡ [] → IsNetlist (netlist_of gs ws 0)
  netlist_there none =
      let two = none_before (count ++ gates) wires none in
      let (some, few) = and_parts (nat_le 1 (length gs)) (nat_le (length gs) 1024)
      (words_there (nat_le 1 (length gs) && nat_le (length gs) 1024) (codes "gates") (codes "1 to 1024 gates") t (none_before count gates two)) in
      let each_gate = unfit_none (is_gate (length ws)) (codes "gates") (codes "a delay, and at most 8 of the listed wires") 0 gs (none_behind count gates two) in
      let each_wire = unfit_none (is_wire (length gs)) (codes "wires") (codes "a wire to one of the listed gates") 0 ws (none_behind (count ++ gates) wires none) in
      record {
        some = leb-true 1 (length gs) some;
        few = leb-true (length gs) 1024 few;
        gates = λ i l. gate_holds (length ws) _ (Every-get_or (λ g. is_gate (length ws) g ≡ true) gs i (record { table = 0; delay = 1; first = 0; count = 0 }) l each_gate);
        wires = λ i l. wire_holds (length gs) _ (Every-get_or (λ w. is_wire (length gs) w ≡ true) ws i (record { to = 0; pin = 0 }) l each_wire);
        digest_fits = lit< tt;
      }

  netlist_right : (digest : ℕ) → IsNetlist (netlist_of gs ws digest) → netlist_wrong gs ws t ≡ []
  netlist_right digest h =
      let each_gate = Every-from_get_or (λ g. is_gate (length ws) g ≡ true) gs (record { table = 0; delay = 1; first = 0; count = 0 }) (λ i l. holds_gate (length ws) _ (h.gates i l)) in
      let each_wire = Every-from_get_or (λ w. is_wire (length gs) w ≡ true) ws (record { to = 0; pin = 0 }) (λ i l. holds_wire (length gs) _ (h.wires i l)) in
      rw (
        le-leb 1 (length gs) h.some,
        le-leb (length gs) 1024 h.few,
        words_right (codes "gates") (codes "1 to 1024 gates") t,
        all_fit (is_gate (length ws)) (codes "gates") (codes "a delay, and at most 8 of the listed wires") 0 gs each_gate,
        all_fit (is_wire (length gs)) (codes "wires") (codes "a wire to one of the listed gates") 0 ws each_wire,
      ) refl

-- 4. The table

module _ (t : Members) where
  abbrev last : List Wrong
  last = numbers_wrong (number_key (codes "end") 1 (2 ^ 40) ∷ []) t

  abbrev gates_of_t : List Wrong
  gates_of_t = gates_wrong t (items_at (codes "gates") t)

  abbrev wires_of_t : List Wrong
  wires_of_t = wires_wrong t (items_at (codes "wires") t)

  abbrev parts_of_t : List Wrong
  parts_of_t = parts_wrong (list_at gate_of (codes "gates") t) (list_at wire_of (codes "wires") t) t

  abbrev others : List Wrong
  others = unknown_wrong circuit_keys t

  -- a table that describes a circuit has no mistakes
  pub circuit_right : (c : Circuit) (end : ℕ) → IsCircuitTable t c end → circuit_wrong t ≡ []
  circuit_right c end h =
      rw (
        numbers_right (number_key (codes "end") 1 (2 ^ 40) ∷ []) t ((end, h.last), tt),
        gates_right t (items_at (codes "gates") t) c.gates.items (map string_bytes c.names.items) h.gates h.names,
        wires_right t (items_at (codes "wires") t) c.wires.items h.wires,
        h.gates,
        h.wires,
        netlist_right c.gates.items c.wires.items t c.digest c.good,
      ) h.only

  module _ (none : circuit_wrong t ≡ []) where
    four : last ++ gates_of_t ++ wires_of_t ++ parts_of_t ≡ []
    four = none_before (last ++ gates_of_t ++ wires_of_t ++ parts_of_t) others none

    three : last ++ gates_of_t ++ wires_of_t ≡ []
    three = none_before (last ++ gates_of_t ++ wires_of_t) parts_of_t four

    two : last ++ gates_of_t ≡ []
    two = none_before (last ++ gates_of_t) wires_of_t three

    -- a table without mistakes has each part
    pub end_is : number_at (codes "end") 1 (2 ^ 40) t ≡ None → ⊥
    end_is missing =
        let ((n, is, _, _), all) = numbers_there (number_key (codes "end") 1 (2 ^ 40) ∷ []) t (none_before last gates_of_t two) in cc

    pub gates_are : list_at gate_of (codes "gates") t ≡ None → ⊥
    gates_are missing = let (gs, is) = gates_there t (items_at (codes "gates") t) (none_behind last gates_of_t two) in cc

    pub names_are : list_at name_of (codes "gates") t ≡ None → ⊥
    names_are missing = let (ns, is) = names_there t (items_at (codes "gates") t) (none_behind last gates_of_t two) in cc

    pub wires_are : list_at wire_of (codes "wires") t ≡ None → ⊥
    wires_are missing = let (ws, is) = wires_there t (items_at (codes "wires") t) (none_behind (last ++ gates_of_t) wires_of_t three) in cc

    pub no_others : unknown_wrong circuit_keys t ≡ []
    no_others = none_behind (last ++ gates_of_t ++ wires_of_t ++ parts_of_t) others none

    pub netlist_is : (gs : List Gate) (ws : List Wire) → list_at gate_of (codes "gates") t ≡ Some gs → list_at wire_of (codes "wires") t ≡ Some ws → IsNetlist (netlist_of gs ws 0)
    netlist_is gs ws is_g is_w =
        let parts : parts_wrong (Some gs) (Some ws) t ≡ []
        = ap (λ o. parts_wrong o (Some ws) t) (sym is_g) ∙ ap (λ o. parts_wrong (list_at gate_of (codes "gates") t) o t) (sym is_w)
        ∙ none_behind (last ++ gates_of_t ++ wires_of_t) parts_of_t four in
        netlist_there gs ws t parts
