-- Arrays in the state of a model by rules: which text declares one, and the names of its words.
use Rattle.std.specs.Prelude.{ℕ, zero, suc, ◌+◌, ◌-◌, ◌*◌, List, [], ◌∷◌, ◌++◌, Bool, ◌&&◌, ◌||◌, true, false, not}
use Rattle.std.specs.Prelude.{◌==◌, Option, Some, None, codes, decimal, drop, if◌then◌else◌, length}
use Rattle.std.specs.Prelude.{map, min, nat_le, nat_lt, string_bytes, take}
use Rattle.std.specs.Str.{bytes_eq}
use Rattle.std.specs.List.{after_first, before_first, position_or_len}
use Rattle.rule_files.specs.Names.{is_key, is_name, is_word}
use Rattle.rule_files.specs.declared.arrays.NamedArray.{NamedArray}
use Rattle.rule_files.specs.declared.arrays.StateNames.{StateNames}
use Rattle.rules.specs.Elements.{per_word, words_of}
use Rattle.rules.specs.declared.arrays.Array.{Array}

-- 1. Declarations: `NAME[COUNT]: BITS bits`

-- the name, the number of elements, and the bits of an element
pub record Declaration : Type 0 where
  pub name : List ℕ
  pub count : ℕ
  pub bits : ℕ

abbrev pub declared_view : List ℕ → ℕ → ℕ → Declaration
declared_view name count bits = record { name = name; count = count; bits = bits }

abbrev pub is_digit : ℕ → Bool
is_digit b = nat_le 48 b && nat_le b 57

-- the number that the digits at the beginning say, after a number; a greater one than 65,536
-- counts as that
abbrev pub number_in : ℕ → List ℕ → ℕ
number_in n [] = n
number_in n (b ∷ bs) = if is_digit b then number_in (min (10 * n + (b - 48)) 65536) bs else n

abbrev pub behind_digits : List ℕ → List ℕ
behind_digits [] = []
behind_digits (b ∷ bs) = if is_digit b then behind_digits bs else b ∷ bs

-- what stands after a mark at the beginning
abbrev pub after : List ℕ → List ℕ → Option (List ℕ)
after mark text =
    if bytes_eq (take (min (length mark) (length text)) text) mark
    then Some (drop (min (length mark) (length text)) text) else None

abbrev pub is_unit : List ℕ → Bool
is_unit text = bytes_eq text (codes " bits") || bytes_eq text (codes " bit")

-- an array has 1 to 1,024 elements of 1 to 64 bits
abbrev pub fits : List ℕ → ℕ → ℕ → Bool
fits name count bits =
    is_name name && (nat_le 1 count && (nat_le count 1024 && (nat_le 1 bits && nat_le bits 64)))

abbrev pub bits_behind : List ℕ → ℕ → Option (List ℕ) → Option Declaration
bits_behind name count None = None
bits_behind name count (Some text) =
    if is_unit (behind_digits text) && fits name count (number_in 0 text)
    then Some (declared_view name count (number_in 0 text)) else None

abbrev pub declared_behind : List ℕ → List ℕ → Option Declaration
declared_behind name text =
    bits_behind name (number_in 0 text) (after (codes "]: ") (behind_digits text))

abbrev pub is_bracket : ℕ → Bool
is_bracket b = b == 91

-- what a text declares: the name stands before its first bracket
unfoldable pub declared_in : List ℕ → Option Declaration
declared_in text =
    if nat_lt (position_or_len is_bracket text) (length text)
    then declared_behind (before_first is_bracket text) (after_first is_bracket text) else None

-- 2. The names of the words of an array

abbrev pub last_text : ℕ → ℕ → List ℕ
last_text first last = if first == last then [] else codes "-" ++ decimal last

-- word j has the elements from the first to the last number, or one
abbrev pub array_word : List ℕ → Array → ℕ → List ℕ
array_word name a j =
    let first = j * per_word a in
    let last = min (first + per_word a) a.count - 1 in
    (((name ++ codes "[") ++ decimal first) ++ last_text first last) ++ codes "]"

-- after these words, those of an array, j of them
abbrev pub with_array_words : ℕ → List ℕ → Array → List (List ℕ) → List (List ℕ)
with_array_words zero name a words = words
with_array_words (suc j) name a words =
    with_array_words j name a words ++ array_word name a j ∷ []

-- 3. The state, item by item

-- the names of the words, and the arrays
pub record State : Type 0 where
  pub words : List (List ℕ)
  pub arrays : List (List ℕ × Array)

abbrev pub array_view : NamedArray → List ℕ × Array
array_view a = (string_bytes a.name, a.array)

abbrev pub state_view : StateNames → State
state_view s = record {
  words = map string_bytes s.words.items;
  arrays = map array_view s.arrays.items;
}

abbrev pub no_state : State
no_state = record { words = []; arrays = [] }

-- an array begins with a word of its own
abbrev pub array_at : ℕ → Declaration → Array
array_at place d = record { place = place; bits = d.bits; count = d.count }

abbrev pub with_array : List ℕ → Array → State → State
with_array name a s = record {
  words = with_array_words (words_of a) name a s.words;
  arrays = s.arrays ++ (name, a) ∷ [];
}

-- a state has at most 16 words
abbrev pub with_declared : Option Declaration → State → Option State
with_declared None s = None
with_declared (Some d) s =
    if nat_lt (16 - length s.words) (words_of (array_at (length s.words) d)) then None
    else Some (with_array d.name (array_at (length s.words) d) s)

abbrev pub with_word : List ℕ → State → Option State
with_word name s =
    if length s.words == 16 then None
    else Some (record { words = s.words ++ name ∷ []; arrays = s.arrays })

abbrev pub with_item : List ℕ → State → Option State
with_item text s = if is_word text then with_word text s else with_declared (declared_in text) s

-- 4. A state that begins with the key, as each does where one kind of processes has it

-- the place of the key among the words of the state
abbrev pub key_from : ℕ → List (List ℕ) → Option ℕ
key_from i [] = None
key_from i (word ∷ words) = if is_key word then Some i else key_from (i + 1) words

-- the words without the first key, or all of them if that has been left out
abbrev pub but_key : Bool → List (List ℕ) → List (List ℕ)
but_key out [] = []
but_key out (word ∷ words) =
    if not out && is_key word then but_key true words else word ∷ but_key out words

-- what stood before the key, or anywhere if there was none, stands one place later
abbrev pub is_later : Option ℕ → ℕ → Bool
is_later None place = true
is_later (Some key) place = nat_lt place key

abbrev pub moved : Option ℕ → Array → Array
moved key a = record {
  place = if is_later key a.place then min (a.place + 1) 255 else a.place;
  bits = a.bits;
  count = a.count;
}

abbrev pub moved_arrays : Option ℕ → List (List ℕ × Array) → List (List ℕ × Array)
moved_arrays key arrays = map (λ a. (a.0, moved key a.1)) arrays

abbrev pub key_first : State → State
key_first s = record {
  words = codes "key" ∷ but_key false s.words;
  arrays = moved_arrays (key_from 0 s.words) s.arrays;
}

abbrev pub few_words : State → Option State
few_words s = if nat_le (length s.words) 16 then Some s else None
