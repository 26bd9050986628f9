-- The names, numbers and signs of a text.
use Rattle.std.specs.Str.{bytes_eq}
use Rattle.std.specs.Prelude.{codes, ◌≡◌, ℕ, zero, suc, ◌+◌, ◌-◌, ◌*◌, ◌^◌, List, [], ◌∷◌, ◌++◌, Option, Some, None, Bool, true, false, ◌&&◌, ◌||◌, not, eqb, length, take, drop, nat_lt, nat_le, if◌then◌else◌}
use Rattle.rules.specs.declared.tree.Operator.TheVariants as o
use Rattle.rule_files.specs.declared.grammar.lexemes.Lexeme.{Lexeme}
use Rattle.rule_files.specs.declared.grammar.lexemes.Lexeme.TheVariants.{Name, Number, Sign, Mark}
use Rattle.rule_files.specs.declared.grammar.lexemes.Placed.{Placed}
use Rattle.rule_files.specs.declared.grammar.lexemes.Run.{Run}
use Rattle.rule_files.specs.declared.grammar.lexemes.Run.TheVariants.{Word, Line}
use Rattle.rule_files.specs.declared.grammar.token.Mark.TheVariants as m
use Rattle.rule_files.specs.ReadingValues.{◌>>=◌}

-- A to Z, a to z and `_`
abbrev pub is_letter : ℕ → Bool
is_letter b = (nat_le 65 b && nat_le b 90) || (nat_le 97 b && nat_le b 122) || eqb b 95

abbrev pub is_digit : ℕ → Bool
is_digit b = nat_le 48 b && nat_le b 57

-- a space, a tab, and the ends of lines
abbrev pub is_white : ℕ → Bool
is_white b = eqb b 32 || eqb b 9 || eqb b 10 || eqb b 13

-- what belongs to a word, and to a line
abbrev pub belongs : Run → ℕ → Bool
belongs Word b = is_letter b || is_digit b
belongs Line b = not (eqb b 10)

-- how many bytes at the front belong to the run
abbrev pub run : Run → List ℕ → ℕ
run kind [] = 0
run kind (b ∷ bs) = if belongs kind b then run kind bs + 1 else 0

-- decimal digits, with `_` between two of them, below 2^64: whether a digit came last, and the value so far
abbrev pub digit_step : Bool → ℕ → ℕ → Option (Bool × ℕ)
digit_step after v b =
    if is_digit b then (if nat_lt (v * 10 + (b - 48)) (2 ^ 64) then Some (true, v * 10 + (b - 48)) else None) else
    if after && eqb b 95 then Some (false, v) else None

abbrev pub digits : Bool → ℕ → List ℕ → Option ℕ
digits after v [] = if after then Some v else None
digits after v (b ∷ bs) = digit_step after v b >>= λ p. digits p.0 p.1 bs

abbrev pub number_of : List ℕ → Option ℕ
number_of bs = digits false 0 bs

-- what a longest run of letters, digits and `_` is: a number or a name
abbrev pub word_of : List ℕ → Option Lexeme
word_of [] = None
word_of (b ∷ bs) =
    if is_digit b then (number_of (b ∷ bs) >>= λ n. Some (Number n)) else
    if nat_le (length (b ∷ bs)) 64 then Some Name else None

-- signs of one byte
abbrev pub single : ℕ → Option Lexeme
single b =
    if eqb b 43 then Some (Sign o.Plus) else  -- +
    if eqb b 45 then Some (Sign o.Minus) else  -- -
    if eqb b 42 then Some (Sign o.Times) else  -- *
    if eqb b 47 then Some (Sign o.Over) else  -- /
    if eqb b 37 then Some (Sign o.Modulo) else  -- %
    if eqb b 38 then Some (Sign o.BitAnd) else  -- &
    if eqb b 94 then Some (Sign o.BitXor) else  -- ^
    if eqb b 124 then Some (Sign o.BitOr) else  -- |
    if eqb b 60 then Some (Sign o.Below) else  -- <
    if eqb b 62 then Some (Sign o.Above) else  -- >
    if eqb b 33 then Some (Mark m.Not) else  -- !
    if eqb b 61 then Some (Mark m.Is) else  -- =
    if eqb b 44 then Some (Mark m.Comma) else  -- ,
    if eqb b 40 then Some (Mark m.Open) else  -- (
    if eqb b 41 then Some (Mark m.Close) else  -- )
    if eqb b 91 then Some (Mark m.OpenIndex) else  -- [
    if eqb b 93 then Some (Mark m.CloseIndex) else  -- ]
    if eqb b 123 then Some (Mark m.OpenBlock) else  -- {
    if eqb b 125 then Some (Mark m.CloseBlock) else  -- }
    None

-- signs of two bytes
abbrev pub double : ℕ → ℕ → Option Lexeme
double a b =
    if eqb a 60 && eqb b 60 then Some (Sign o.ShiftLeft) else  -- <<
    if eqb a 62 && eqb b 62 then Some (Sign o.ShiftRight) else  -- >>
    if eqb a 61 && eqb b 61 then Some (Sign o.Same) else  -- ==
    if eqb a 33 && eqb b 61 then Some (Sign o.Different) else  -- !=
    if eqb a 60 && eqb b 61 then Some (Sign o.AtMost) else  -- <=
    if eqb a 62 && eqb b 61 then Some (Sign o.AtLeast) else  -- >=
    if eqb a 38 && eqb b 38 then Some (Sign o.Both) else  -- &&
    if eqb a 124 && eqb b 124 then Some (Sign o.Either) else  -- ||
    None

abbrev pub double_at : ℕ → List ℕ → Option Lexeme
double_at a [] = None
double_at a (b ∷ bs) = double a b

abbrev pub longest : Option Lexeme → Option Lexeme → Option (Lexeme × ℕ)
longest (Some two) one = Some (two, 2)
longest None one = one >>= λ x. Some (x, 1)

-- `.count`, after its point: the letters go no further
abbrev pub is_counting : List ℕ → Bool
is_counting rest = eqb (run Word rest) 5 && bytes_eq (take 5 rest) (codes "count")

abbrev pub or_count : Option (Lexeme × ℕ) → ℕ → List ℕ → Option (Lexeme × ℕ)
or_count (Some p) b rest = Some p
or_count None b rest = if eqb b 46 && is_counting rest then Some (Mark m.Count, 6) else None

-- the longest sign that comes first, and its length
abbrev pub sign_piece : ℕ → List ℕ → Option (Lexeme × ℕ)
sign_piece b rest = or_count (longest (double_at b rest) (single b)) b rest

-- what comes first and how long it is: a lexeme, or white space or a comment, which are none
abbrev pub piece : List ℕ → Option (Option Lexeme × ℕ)
piece [] = None
piece (b ∷ rest) =
    if is_white b then Some (None, 1) else
    if eqb b 35 then Some (None, 1 + run Line rest) else
    if belongs Word b then (word_of (take (run Word (b ∷ rest)) (b ∷ rest)) >>= λ x. Some (Some x, run Word (b ∷ rest))) else
    (sign_piece b rest >>= λ p. Some (Some p.0, p.1))

abbrev pub placed : Option Lexeme → ℕ → ℕ → List Placed
placed None start end = []
placed (Some x) start end = record { lexeme = x; start = start; end = end } ∷ []

-- piece after piece, from a place on
abbrev pub lex : ℕ → ℕ → List ℕ → Option (List Placed)
lex zero at bytes = Some []
lex (suc n) at [] = Some []
lex (suc n) at (b ∷ rest) =
    piece (b ∷ rest) >>= λ p. lex n (at + p.1) (drop p.1 (b ∷ rest)) >>= λ ts. Some (placed p.0 at (at + p.1) ++ ts)

unfoldable pub lexemes_at : List ℕ → Option (List Placed)
lexemes_at bytes = lex (length bytes) 0 bytes

-- a name: 1 to 64 letters, digits and `_`, the first of them no digit
abbrev pub is_name : List ℕ → Bool
is_name [] = false
is_name (b ∷ bs) = is_letter b && nat_le (length (b ∷ bs)) 64 && eqb (run Word (b ∷ bs)) (length (b ∷ bs))

-- all of these bytes belong to the run, and what follows does not
abbrev pub Each : Run → List ℕ → Type 0
Each kind [] = Unit {0}
Each kind (b ∷ bs) = (belongs kind b ≡ true) × Each kind bs

abbrev pub Stops : Run → List ℕ → Type 0
Stops kind [] = Unit {0}
Stops kind (b ∷ bs) = belongs kind b ≡ false

-- neither white space nor the begin of a comment, and whether it belongs to a word
abbrev pub IsOfWord : Bool → ℕ → Type 0
IsOfWord word b = (is_white b ≡ false) × (eqb b 35 ≡ false) × (belongs Word b ≡ word)

-- What is at the front, before the rest: white space, a comment up to the end of its line, a name or a number as long as it goes, or
-- the longer of two signs; or `.count`, which no letter follows.
pub data IsPiece : Option Lexeme → (front rest : List ℕ) → Type 0 where
  white_space : (b : ℕ) (rest : List ℕ) → is_white b ≡ true → IsPiece None (b ∷ []) rest
  a_comment : (line rest : List ℕ) → Each Line line → Stops Line rest → IsPiece None (35 ∷ line) rest
  a_word : (b : ℕ) (bs rest : List ℕ) (x : Lexeme) → IsOfWord true b → Each Word bs → Stops Word rest → word_of (b ∷ bs) ≡ Some x →
      IsPiece (Some x) (b ∷ bs) rest
  a_double : (a b : ℕ) (rest : List ℕ) (x : Lexeme) → IsOfWord false a → double a b ≡ Some x → IsPiece (Some x) (a ∷ b ∷ []) rest
  a_single : (a : ℕ) (rest : List ℕ) (x : Lexeme) → IsOfWord false a → double_at a rest ≡ None → single a ≡ Some x → IsPiece (Some x) (a ∷ []) rest
  a_count : (rest : List ℕ) → Stops Word rest → IsPiece (Some (Mark m.Count)) (46 ∷ codes "count") rest

-- The text from a place on is piece after piece, and these are the names, numbers and signs among them.
pub data Splits : (at : ℕ) → List ℕ → List Placed → Type 0 where
  nothing_left : (at : ℕ) → Splits at [] []
  a_piece : (at : ℕ) (found : Option Lexeme) (front rest : List ℕ) (ts : List Placed) → IsPiece found front rest → Splits (at + length front) rest ts →
      Splits at (front ++ rest) (placed found at (at + length front) ++ ts)
