-- Model files of any kind of model: TOML tables that describe one. The mistakes in a table that
-- does not, key by key.
use Rattle.std.specs.Prelude.{◌≡◌, ℕ, List, [], ◌∷◌, ◌++◌, ◌&&◌, nat_eq, nat_le, Option}
use Rattle.std.specs.Prelude.{Some, None}
use Rattle.std.specs.Prelude.{if◌then◌else◌, ℤ, pos, negsuc, option_and_then, is_some}
use Rattle.std.specs.Prelude.{Bool, codes, decimal, string_bytes}
use Rattle.std.specs.Cmp.Lexicographic.{pointwise}
use Rattle.std.specs.List.{list_any}
use Rattle.texts.specs.declared.findings.Finding.{Finding}
use Rattle.texts.specs.declared.findings.Found.{Found}
use Rattle.texts.specs.declared.findings.Found.TheVariants as found
use Rattle.texts.specs.declared.findings.Expected.{Expected}
use Rattle.texts.specs.declared.findings.Expected.TheVariants as expected
use Rattle.toml.specs.Data.{Data, Members, as_integer, get_member, member, no_members}
use Rattle.toml.specs.Data.{string, integer, float, boolean, datetime, array, table as subtable}
use Rattle.toml.specs.Parse.{parse_document}

-- the number, if it is from least to most
abbrev pub in_range : ℕ → ℕ → ℤ → Option ℕ
in_range least most (pos n) = if nat_le least n && nat_le n most then Some n else None
in_range least most (negsuc n) = None

-- the whole number from least to most at a key, if there is one
abbrev pub number_at : List ℕ → ℕ → ℕ → Members → Option ℕ
number_at key least most table =
    option_and_then (in_range least most) (option_and_then as_integer (get_member key table))

-- the text is a model file: TOML with a table that describes this model and a run to this end
pub record IsModelFile {M : Type 0} (says : Members → M → ℕ → Type 0)
    (text : List ℕ) (model : M) (end : ℕ) : Type 0 where
  pub table : Members
  pub read : parse_document text ≡ Some table
  pub described : says table model end

-- the value that a key must have: a whole number from least to most, or what words describe, or none
-- at a key that the model does not have
pub data Expectation : Type 0 where
  number : ℕ → ℕ → Expectation
  words : List ℕ → Expectation
  nothing : Expectation

-- one mistake in a table
pub record Wrong : Type 0 where
  pub key : List ℕ
  pub found : Found
  pub expected : Expectation

-- the kind of value at a key
abbrev pub found_of : Option Data → Found
found_of None = found.Nothing
found_of (Some (string s)) = found.Text
found_of (Some (integer z)) = found.Number z
found_of (Some (float x)) = found.Float
found_of (Some (boolean b)) = found.Boolean
found_of (Some (datetime d)) = found.Datetime
found_of (Some (array ds)) = found.Array
found_of (Some (subtable ms)) = found.Table

-- the value of a finding that contracts see
abbrev pub expectation_of : Expected → Expectation
expectation_of (expected.Number least most) = number least most
expectation_of (expected.Words text) = words text.now
expectation_of expected.Nothing = nothing

abbrev pub reported : Finding → Wrong
reported f = record { key = string_bytes f.key; found = f.found; expected = expectation_of f.expected }

-- this mistake, unless right
abbrev pub unless : Bool → Wrong → List Wrong
unless right w = if right then [] else w ∷ []

-- the mistake at a key that must have a whole number from least to most, if it has none
unfoldable pub number_wrong : List ℕ → ℕ → ℕ → Members → List Wrong
number_wrong key least most table = unless (is_some (number_at key least most table)) (record {
  key = key;
  found = found_of (get_member key table);
  expected = number least most;
})

-- a key that must have a whole number from least to most
pub record NumberKey : Type 0 where
  pub key : List ℕ
  pub least : ℕ
  pub most : ℕ

abbrev pub number_key : List ℕ → ℕ → ℕ → NumberKey
number_key key least most = record { key = key; least = least; most = most }

-- the earlier mistakes, then those at these keys
abbrev pub numbers_from : List Wrong → List NumberKey → Members → List Wrong
numbers_from before [] table = before
numbers_from before (k ∷ ks) table =
    numbers_from (before ++ number_wrong k.key k.least k.most table) ks table

abbrev pub numbers_wrong : List NumberKey → Members → List Wrong
numbers_wrong keys table = numbers_from [] keys table

-- the mistake at a key that must have another value, which these words describe, unless it is right
unfoldable pub words_wrong : Bool → List ℕ → List ℕ → Members → List Wrong
words_wrong right key text table = unless right (record {
  key = key;
  found = found_of (get_member key table);
  expected = words text;
})

-- the mistake at an index of a list, with a key like `gates[3]`, unless the item is right; these
-- words describe what it must be
unfoldable pub item_wrong : Bool → List ℕ → ℕ → Found → List ℕ → List Wrong
item_wrong right key place what text = unless right (record {
  key = key ++ (codes "[" ++ (decimal place ++ codes "]"));
  found = what;
  expected = words text;
})

-- the key is one of these
abbrev pub is_among : List ℕ → List (List ℕ) → Bool
is_among key keys = list_any (λ k. pointwise nat_eq k key) keys

-- a mistake for each key of a table that is none of these
unfoldable pub unknown_wrong : List (List ℕ) → Members → List Wrong
unknown_wrong keys no_members = []
unknown_wrong keys (member key value others) = unless (is_among key keys) (record {
  key = key;
  found = found_of (Some value);
  expected = nothing;
}) ++ unknown_wrong keys others
