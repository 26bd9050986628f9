-- What the file of a model by rules says: the values at its keys.
use Rattle.std.specs.Prelude.{ℕ, ◌+◌, ◌-◌, ◌^◌, ◌==◌, List, [], ◌∷◌, ◌++◌, Bool, true, ◌&&◌, ◌||◌}
use Rattle.std.specs.Prelude.{false, Option, Some, None, codes, drop, if◌then◌else◌, is_some}
use Rattle.std.specs.Prelude.{length, min, nat_eq}
use Rattle.std.specs.Prelude.{map, nat_le, option_and_then, option_map, string_bytes}
use Rattle.std.specs.Cmp.Lexicographic.{pointwise}
use Rattle.std.specs.List.{list_any}
use Rattle.rule_files.specs.Arrays.{State, array_view, few_words, key_first, no_state, with_item}
use Rattle.rule_files.specs.Names.{are_distinct, is_name}
use Rattle.rule_files.specs.declared.kinds.KindHead.{KindHead}
use Rattle.rule_files.specs.declared.scope.Field.{Field}
use Rattle.rule_files.specs.declared.scope.Named.{Named}
use Rattle.rule_files.specs.declared.scope.NamedSort.{NamedSort}
use Rattle.rule_files.specs.declared.scope.Scope.{Scope}
use Rattle.rules.specs.declared.arrays.Array.{Array}
use Rattle.texts.specs.ModelFile.{in_range}
use Rattle.toml.specs.Data.{Data, Items, Members, as_array, as_integer, as_str, as_table}
use Rattle.toml.specs.Data.{get_member, item, member, no_items, no_members}

-- what is read from each item, if every item can be read
abbrev pub all_of : {X : Type 0} → (Data → Option X) → Items → Option (List X)
all_of read no_items = Some []
all_of read (item d ds) =
    option_and_then (λ x. option_map (λ xs. x ∷ xs) (all_of read ds)) (read d)

-- the list, if it has at most this many items
abbrev pub at_most : {X : Type 0} → ℕ → List X → Option (List X)
at_most n xs = if nat_le (length xs) n then Some xs else None

-- 1. Names of words

unfoldable pub word_in : Data → Option (List ℕ)
word_in d = option_and_then (λ text. if is_name text then Some text else None) (as_str d)

abbrev pub words_in : Data → Option (List (List ℕ))
words_in d = option_and_then (all_of word_in) (as_array d)

-- the state, item by item: words and arrays, at most 16 words in all
abbrev pub state_behind : State → Items → Option State
state_behind s no_items = Some s
state_behind s (item d ds) =
    option_and_then (λ text. option_and_then (λ more. state_behind more ds) (with_item text s))
    (as_str d)

-- whether the words of content are named by sorts
abbrev pub has_sorts : Members → Bool
has_sorts t = is_some (get_member (codes "messages") t)

unfoldable pub state_of : Members → Option State
state_of t =
    option_and_then (state_behind no_state)
    (option_and_then as_array (get_member (codes "state") t))

abbrev pub content_in : Bool → Option Data → Option (List (List ℕ))
content_in sorted None = Some []
content_in sorted (Some d) = if sorted then None else option_and_then (at_most 4) (words_in d)

-- the words of content that have a name: at most 4, and none where sorts name them
unfoldable pub content_of : Bool → Members → Option (List (List ℕ))
content_of sorted t = content_in sorted (get_member (codes "message") t)

-- 2. Named numbers, tables, and sorts of messages

abbrev pub number_in : Data → Option ℕ
number_in d = option_and_then (in_range 0 (2 ^ 63 - 1)) (as_integer d)

abbrev pub some_numbers : List ℕ → Option (List ℕ)
some_numbers [] = None
some_numbers (n ∷ ns) = Some (n ∷ ns)

-- a number as a list of one, or a list of one or more
unfoldable pub numbers_in : Bool → Data → Option (List ℕ)
numbers_in is_table d =
    if is_table then option_and_then some_numbers
    (option_and_then (all_of number_in) (as_array d))
    else option_map (λ n. n ∷ []) (number_in d)

-- what is read at each name, if every name and its value can be read
abbrev pub named_in : {X : Type 0} → (Data → Option X) → Members → Option (List (List ℕ × X))
named_in read no_members = Some []
named_in read (member key d others) =
    if is_name key then option_and_then (λ x. option_map (λ named. (key, x) ∷ named)
    (named_in read others)) (read d)
    else None

-- at most 1,024 names with their values
abbrev pub named_or_none : {X : Type 0} → (Data → Option X) → Option Data →
    Option (List (List ℕ × X))
named_or_none read None = Some []
named_or_none read (Some d) =
    option_and_then (at_most 1024) (option_and_then (named_in read) (as_table d))

-- the named numbers
unfoldable pub numbers_of : Members → Option (List (List ℕ × List ℕ))
numbers_of t = named_or_none (numbers_in false) (get_member (codes "numbers") t)

abbrev pub all_numbers : List (List ℕ × List ℕ) → ℕ
all_numbers [] = 0
all_numbers (n ∷ ns) = length n.1 + all_numbers ns

abbrev pub few_numbers : List (List ℕ × List ℕ) → Option (List (List ℕ × List ℕ))
few_numbers ns = if nat_le (all_numbers ns) (2 ^ 20) then Some ns else None

-- the tables: together at most 2^20 numbers
unfoldable pub tables_of : Members → Option (List (List ℕ × List ℕ))
tables_of t =
    option_and_then few_numbers (named_or_none (numbers_in true) (get_member (codes "tables") t))

-- the names of a sort's fields, by their places after the first word: at most 3
unfoldable pub fields_in : Data → Option (List (List ℕ))
fields_in d = option_and_then (at_most 3) (words_in d)

-- the sorts of messages, by their numbers
unfoldable pub named_sorts_of : Members → Option (List (List ℕ × List (List ℕ)))
named_sorts_of t = named_or_none fields_in (get_member (codes "messages") t)

-- `_` leaves a place free
abbrev pub is_free : List ℕ → Bool
is_free name = pointwise nat_eq name (codes "_")

abbrev pub is_field : List (List ℕ × ℕ) → List ℕ → ℕ → Bool
is_field fields name place = list_any (λ f. pointwise nat_eq f.0 name && (f.1 == place)) fields

-- one more field with its place, unless it is there at this place
abbrev pub with_field : List (List ℕ × ℕ) → List ℕ → ℕ → List (List ℕ × ℕ)
with_field fields name place =
    if is_free name || is_field fields name place then fields else fields ++ (name, place) ∷ []

-- those of a sort, from a place on
abbrev pub with_fields : List (List ℕ × ℕ) → ℕ → List (List ℕ) → List (List ℕ × ℕ)
with_fields fields place [] = fields
with_fields fields place (name ∷ names) =
    with_fields (with_field fields name place) (min (place + 1) 255) names

abbrev pub with_all_fields : List (List ℕ × ℕ) → List (List ℕ × List (List ℕ)) →
    List (List ℕ × ℕ)
with_all_fields fields [] = fields
with_all_fields fields (sort ∷ sorts) = with_all_fields (with_fields fields 1 sort.1) sorts

-- the fields of all sorts: one that several sorts have at the same place is there once
abbrev pub fields_of : List (List ℕ × List (List ℕ)) → List (List ℕ × ℕ)
fields_of sorts = with_all_fields [] sorts

-- the sorts, if a field that several have stands at the same place in each
abbrev pub are_apart : List (List ℕ × List (List ℕ)) → Bool
are_apart sorts = are_distinct (map (λ f. f.0) (fields_of sorts))

abbrev pub apart : List (List ℕ × List (List ℕ)) → Option (List (List ℕ × List (List ℕ)))
apart sorts = if are_apart sorts then Some sorts else None

abbrev pub sorts_of : Members → Option (List (List ℕ × List (List ℕ)))
sorts_of t = option_and_then apart (named_sorts_of t)

-- 3. All of these, if no name is there twice

-- processes in a row
pub record Kind : Type 0 where
  pub name : List ℕ
  pub first : ℕ
  pub count : ℕ

-- the names that the rules of a file read, or those of one kind of processes
pub record Parts : Type 0 where
  pub words : List (List ℕ)
  pub arrays : List (List ℕ × Array)
  pub content : List (List ℕ)
  pub numbers : List (List ℕ × List ℕ)
  pub tables : List (List ℕ × List ℕ)
  pub sorts : List (List ℕ × List (List ℕ))
  pub fields : List (List ℕ × ℕ)
  pub kinds : List Kind
  pub own : Option ℕ  -- the first process of the own kind

abbrev pub named_view : Named → List ℕ × List ℕ
named_view n = (string_bytes n.name, n.numbers.items)

abbrev pub sort_view : NamedSort → List ℕ × List (List ℕ)
sort_view s = (string_bytes s.name, map string_bytes s.fields.items)

abbrev pub field_view : Field → List ℕ × ℕ
field_view f = (string_bytes f.name, f.place)

abbrev pub kind_view : KindHead → Kind
kind_view k = record { name = string_bytes k.name; first = k.first; count = k.count }

-- the parts that contracts see
abbrev pub parts_view : Scope → Parts
parts_view s = record {
  words = map string_bytes s.words.items;
  arrays = map array_view s.arrays.items;
  content = map string_bytes s.content.items;
  numbers = map named_view s.numbers.items;
  tables = map named_view s.tables.items;
  sorts = map sort_view s.sorts.items;
  fields = map field_view s.fields.items;
  kinds = map (λ k. kind_view k.head) s.kinds.now;
  own = s.own;
}

-- the names of the words of content, if they have none of their own
abbrev pub other_names : List (List ℕ)
other_names = codes "a" ∷ codes "b" ∷ codes "c" ∷ codes "d" ∷ []

-- all names: the words of content without a name are called by their places
abbrev pub names_of : Parts → List (List ℕ)
names_of p =
    (((((((p.words ++ p.content) ++ drop (length p.content) other_names)
    ++ map (λ n. n.0) p.numbers) ++ map (λ n. n.0) p.tables) ++ map (λ n. n.0) p.arrays)
    ++ map (λ s. s.0) p.sorts) ++ map (λ f. f.0) p.fields) ++ map (λ k. k.name) p.kinds

abbrev pub distinct : Parts → Option Parts
distinct p = if are_distinct (names_of p) then Some p else None

-- whether each state begins with the key, all kinds, and the first process of the own one
pub record Setting : Type 0 where
  pub keyed : Bool
  pub kinds : List Kind
  pub own : Option ℕ

-- that of a file without kinds
abbrev pub no_kinds : Setting
no_kinds = record { keyed = false; kinds = []; own = None }

-- the words of a state and its arrays, as they stand in the states of all kinds
abbrev pub state_in : Bool → State → Option State
state_in keyed s = if keyed then few_words (key_first s) else Some s

-- the parts of a table with the state and the message, in a file
unfoldable pub parts_in : Setting → Members → Members → Option Parts
parts_in at file t = option_and_then (λ state. option_and_then (λ content.
    option_and_then (λ numbers. option_and_then (λ tables. option_and_then (λ sorts.
    distinct (record {
      words = state.words;
      arrays = state.arrays;
      content = content;
      numbers = numbers;
      tables = tables;
      sorts = sorts;
      fields = fields_of sorts;
      kinds = at.kinds;
      own = at.own;
    })) (sorts_of file)) (tables_of file)) (numbers_of file)) (content_of (has_sorts file) t))
    (option_and_then (state_in at.keyed) (state_of t))

-- those of a file without kinds
abbrev pub parts_of : Members → Option Parts
parts_of t = parts_in no_kinds t t
