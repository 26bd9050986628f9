-- Arrays of bounded numbers in the words of a state: what an element is, and what a write leaves.
use Rattle.std.specs.Prelude.{ℕ, ◌+◌, ◌-◌, ◌*◌, ◌/◌, ◌%◌, ◌^◌, List, Bool, ◌&&◌, if◌then◌else◌}
use Rattle.std.specs.Prelude.{min, nat_lt, slice_index, slice_set}
use Rattle.rules.specs.declared.arrays.Array.{Array}

-- the number of elements in a word: an element does not cross words
abbrev pub per_word : Array → ℕ
per_word a = 64 / a.bits

-- the number of words of an array
abbrev pub words_of : Array → ℕ
words_of a = (a.count + per_word a - 1) / per_word a

-- the place of the word of element i, and its lowest bit in that word
abbrev pub word_of : Array → ℕ → ℕ
word_of a i = a.place + i / per_word a

abbrev pub shift_of : Array → ℕ → ℕ
shift_of a i = i % per_word a * a.bits

abbrev pub has_element : Array → ℕ → Bool
has_element a i = nat_lt i a.count && (nat_lt 0 a.bits && nat_lt a.bits 65)

-- element i, or 0 if the array has no such element
abbrev pub element : Array → List ℕ → ℕ → ℕ
element a words i =
    if has_element a i then slice_index words (word_of a i) / 2 ^ shift_of a i % 2 ^ a.bits else 0

-- a number that is too great for an element counts as the greatest one
abbrev pub cut : Array → ℕ → ℕ
cut a n = min n (2 ^ a.bits - 1)

-- the word with other bits from a bit on: those above and below stay
abbrev pub with_bits : ℕ → ℕ → ℕ → ℕ → ℕ
with_bits word shift bits n =
    (word / 2 ^ (shift + bits) * 2 ^ bits + min n (2 ^ bits - 1)) * 2 ^ shift + word % 2 ^ shift

-- the words with another element i; if the array has no such element, they stay the same
abbrev pub with_element : Array → List ℕ → ℕ → ℕ → List ℕ
with_element a words i n =
    if has_element a i then
    slice_set words (word_of a i)
    (with_bits (slice_index words (word_of a i)) (shift_of a i) a.bits n)
    else words
