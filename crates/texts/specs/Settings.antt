-- Values of a model file that are set: what the table then is.
use Rattle.std.specs.Prelude.{◌≡◌, ◌≤◌, ◌⊎◌, ◌==◌, ◌-◌, ℕ, List, [], ◌∷◌, Option, Some, None, Bool}
use Rattle.std.specs.Prelude.{true, false, codes, drop, if◌then◌else◌, is_some, length, nat_eq}
use Rattle.std.specs.Prelude.{option_and_then, take}
use Rattle.std.specs.Cmp.Lexicographic.{pointwise}
use Rattle.toml.specs.Data.{Data, Items, Members, array, as_array, as_str, as_table, get_member}
use Rattle.toml.specs.Data.{item, members_depth, no_items, same_key, string, table, type_of}
use Rattle.toml.specs.Parse.{parse_document, parse_value}

-- the numbers of a table, by their names
abbrev pub numbers_of : Members → Option Members
numbers_of before = option_and_then as_table (get_member (codes "numbers") before)

-- the value that the text is where this one stands: the text itself for a string, and otherwise
-- TOML of a value of the same kind
abbrev pub same_kind : Data → Data → Option Data
same_kind old new = if type_of new == type_of old then Some new else None

abbrev pub value_as : Data → List ℕ → Option Data
value_as old text = if is_some (as_str old) then Some (string text)
    else option_and_then (same_kind old) (parse_value text)

-- the second table is the first one with this value at a key
pub record IsPut (key : List ℕ) (value : Data) (before after : Members) : Type 0 where
  pub there : get_member key after ≡ Some value
  pub others : (other : List ℕ) → same_key other key ≡ false →
      get_member other after ≡ get_member other before

-- the second table is the first one with the value at a key replaced by what the text is there
pub record IsReplaced (key text : List ℕ) (before after : Members) : Type 0 where
  pub old : Data
  pub new : Data
  pub had : get_member key before ≡ Some old
  pub read : value_as old text ≡ Some new
  pub put : IsPut key new before after

-- the second value is a table, the first one with the value at a key replaced
pub record IsTableReplaced (key text : List ℕ) (before after : Data) : Type 0 where
  pub old : Members
  pub new : Members
  pub was : as_table before ≡ Some old
  pub replaced : IsReplaced key text old new
  pub is : after ≡ table new

-- the second table is the first one with its number of this name replaced
pub record IsNumberReplaced (name text : List ℕ) (before after : Members) : Type 0 where
  pub numbers : Members
  pub changed : Members
  pub none : get_member name before ≡ None
  pub had : numbers_of before ≡ Some numbers
  pub replaced : IsReplaced name text numbers changed
  pub put : IsPut (codes "numbers") (table changed) before after

-- the name that stands before `.count`
unfoldable pub kind_before : List ℕ → Option (List ℕ)
kind_before name =
    if pointwise nat_eq (drop (length name - 6) name) (codes ".count")
    then Some (take (length name - 6) name) else None

-- the kinds of processes of a table
abbrev pub kinds_of : Members → Option Items
kinds_of before = option_and_then as_array (get_member (codes "kind") before)

abbrev pub name_of : Data → Option (List ℕ)
name_of kind =
    option_and_then as_str (option_and_then (get_member (codes "name")) (as_table kind))

abbrev pub is_name : List ℕ → Option (List ℕ) → Bool
is_name name None = false
is_name name (Some other) = pointwise nat_eq other name

-- whether the value is a kind of this name
abbrev pub is_kind : List ℕ → Data → Bool
is_kind name d = is_name name (name_of d)

-- the count of the first kind of this name
abbrev pub count_among : List ℕ → Items → Option Data
count_among name no_items = None
count_among name (item d ds) =
    if is_kind name d then option_and_then (get_member (codes "count")) (as_table d)
    else count_among name ds

-- the second kinds are the first ones with the count of the first one of this name replaced
pub data IsCountAmong (name text : List ℕ) : Items → Items → Type 0 where
  here : (d e : Data) (ds : Items) → is_kind name d ≡ true →
      IsTableReplaced (codes "count") text d e → IsCountAmong name text (item d ds) (item e ds)
  behind : (d : Data) (ds es : Items) → is_kind name d ≡ false →
      IsCountAmong name text ds es → IsCountAmong name text (item d ds) (item d es)

-- the second table is the first one with the count of the kind before `.count` replaced
pub record IsCountReplaced (name text : List ℕ) (before after : Members) : Type 0 where
  pub kind : List ℕ
  pub kinds : Items
  pub changed : Items
  pub none : get_member name before ≡ None
  pub no_number : option_and_then (get_member name) (numbers_of before) ≡ None
  pub named : kind_before name ≡ Some kind
  pub had : kinds_of before ≡ Some kinds
  pub replaced : IsCountAmong kind text kinds changed
  pub put : IsPut (codes "kind") (array changed) before after

-- the second table is the first one with the value of this name set: that of the key, or else of
-- the number, or else the count of the kind
abbrev pub IsSet : List ℕ → List ℕ → Members → Members → Type 0
IsSet name text before after =
    IsReplaced name text before after
    ⊎ (IsNumberReplaced name text before after ⊎ IsCountReplaced name text before after)

-- the second table is the first one with these values set, one after another
abbrev pub AreSet : List (List ℕ × List ℕ) → Members → Members → Type 0
AreSet [] before after = after ≡ before
AreSet (setting ∷ rest) before after =
    (between : Members) × IsSet setting.0 setting.1 before between × AreSet rest between after

-- the second text is that of the first one's table with these values set. It is read back if that
-- table is no deeper than what is read as TOML
pub record IsTextWith (settings : List (List ℕ × List ℕ)) (text new : List ℕ) : Type 0 where
  pub before : Members
  pub after : Members
  pub read : parse_document text ≡ Some before
  pub set : AreSet settings before after
  pub read_back : members_depth after ≤ 80 → parse_document new ≡ Some after

-- the value that is set by this name, if there is one
abbrev pub count_of : List ℕ → Members → Option Data
count_of name before =
    option_and_then (λ kind. option_and_then (count_among kind) (kinds_of before))
    (kind_before name)

abbrev pub number_or_count : List ℕ → Members → Option Data
number_or_count name before =
    if is_some (option_and_then (get_member name) (numbers_of before))
    then option_and_then (get_member name) (numbers_of before) else count_of name before

abbrev pub present : List ℕ → Members → Option Data
present name before = if is_some (get_member name before) then get_member name before
    else number_or_count name before

-- the text is no value of the kind that is set by this name
abbrev pub IsUnset : List ℕ → List ℕ → Members → Type 0
IsUnset name text before =
    option_and_then (λ old. value_as old text) (present name before) ≡ None
