-- Named numbers in the state of a process.
use Rattle.std.specs.Prelude.{ℕ, List, Bool, ◌+◌, ◌/◌, ◌%◌, ◌^◌, ◌||◌, eqb, nat_lt, slice_index, if◌then◌else◌}

-- the word at a place; a missing one is 0
abbrev pub word_at : List ℕ → ℕ → ℕ
word_at state place = slice_index state place

-- some bits of a word, from a bit on
abbrev pub bits_in : ℕ → ℕ → ℕ → ℕ
bits_in word shift bits = word / 2 ^ shift % 2 ^ bits

-- whether a word has no such bits
abbrev pub lacks : ℕ → ℕ → Bool
lacks shift bits = eqb bits 0 || nat_lt 64 (shift + bits)

-- the number in `bits` bits of the word at a place, from bit `shift` on
abbrev pub number_of : ℕ → ℕ → ℕ → List ℕ → ℕ
number_of place shift bits state = if lacks shift bits then 0 else bits_in (word_at state place) shift bits
