-- The names that a model by rules can give.
use Rattle.std.specs.Prelude.{ℕ, List, [], ◌∷◌, ◌==◌, ◌&&◌, ◌||◌, Bool, true, codes, length}
use Rattle.std.specs.Prelude.{nat_eq, nat_le, not, slice_index}
use Rattle.std.specs.Cmp.Lexicographic.{pointwise}
use Rattle.std.specs.List.{list_all, list_any}

-- `is_letter`: a letter or an underscore; `is_word_byte`: also a digit
abbrev pub is_letter : ℕ → Bool
is_letter b = (nat_le 65 b && nat_le b 90) || ((nat_le 97 b && nat_le b 122) || (b == 95))

abbrev pub is_word_byte : ℕ → Bool
is_word_byte b = is_letter b || (nat_le 48 b && nat_le b 57)

-- the name is one of these
abbrev pub is_among : List ℕ → List (List ℕ) → Bool
is_among name names = list_any (λ n. pointwise nat_eq n name) names

-- the words of the language
abbrev pub reserved : List (List ℕ)
reserved =
    codes "let" ∷ codes "send" ∷ codes "to" ∷ codes "after" ∷ codes "with" ∷ codes "if"
    ∷ codes "else" ∷ codes "repeat" ∷ codes "min" ∷ codes "max" ∷ codes "draw" ∷ codes "key"
    ∷ codes "self" ∷ codes "sender" ∷ codes "now" ∷ codes "lps" ∷ codes "exponential"
    ∷ codes "geometric" ∷ codes "normal" ∷ codes "triangular" ∷ codes "choose" ∷ []

-- a name: a letter or an underscore, then letters, digits and underscores, at most 64 in all, and
-- no word of the language
abbrev pub is_name : List ℕ → Bool
is_name text =
    nat_le 1 (length text) && (nat_le (length text) 64 && (is_letter (slice_index text 0)
    && (list_all is_word_byte text && not (is_among text reserved))))

abbrev pub is_key : List ℕ → Bool
is_key text = pointwise nat_eq text (codes "key")

-- a word of the state has a name, or is the key
abbrev pub is_word : List ℕ → Bool
is_word text = is_name text || is_key text

-- no name is there twice
abbrev pub are_distinct : List (List ℕ) → Bool
are_distinct [] = true
are_distinct (name ∷ names) = not (is_among name names) && are_distinct names
