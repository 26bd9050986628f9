-- The value of an expression: a number of 64 bits without sign.
use Rattle.std.specs.Prelude.{ℕ, ◌+◌, ◌-◌, ◌*◌, ◌/◌, ◌%◌, ◌^◌, List, Bool, not, ◌&&◌, ◌||◌, Option}
use Rattle.std.specs.Prelude.{Some, None}
use Rattle.std.specs.Prelude.{bit_and, bit_or, bit_xor, eqb, nat_lt, nat_le, max, min, slice_get}
use Rattle.std.specs.Prelude.{slice_index, if◌then◌else◌}
use Rattle.models.specs.Words.{word}
use Rattle.rules.specs.Costs.{draws}
use Rattle.rules.specs.Elements.{element}
use Rattle.rules.specs.Distributions.{choice, exponential, geometric, normal, saturated, triangular}
use Rattle.rules.specs.declared.evaluate.Context.{Context}
use Rattle.rules.specs.declared.tree.Expression.{Expression}
use Rattle.rules.specs.declared.tree.Expression.TheVariants.{Number, Word, Content, Local, Read}
use Rattle.rules.specs.declared.tree.Expression.TheVariants.{Not', Two', Entry', Draw', Normal'}
use Rattle.rules.specs.declared.tree.Expression.TheVariants.{Triangular', Choose, Element'}
use Rattle.rules.specs.declared.tree.Known.{Known}
use Rattle.rules.specs.declared.tree.Known.TheVariants.{Process, Sender, Now, Processes}
use Rattle.rules.specs.declared.tree.Law.{Law}
use Rattle.rules.specs.declared.tree.Law.TheVariants.{Uniform, Exponential, Geometric}
use Rattle.rules.specs.declared.tree.Operator.{Operator}
use Rattle.rules.specs.declared.tree.Operator.TheVariants.{Plus, Minus, Times, Over, Modulo}
use Rattle.rules.specs.declared.tree.Operator.TheVariants.{ShiftLeft, ShiftRight, BitAnd, BitXor}
use Rattle.rules.specs.declared.tree.Operator.TheVariants.{BitOr, Same, Different, Below, AtMost}
use Rattle.rules.specs.declared.tree.Operator.TheVariants.{Above, AtLeast, Both, Either, Least}
use Rattle.rules.specs.declared.tree.Operator.TheVariants.{Greatest}

abbrev pub truth : Bool → ℕ
truth b = if b then 1 else 0

abbrev pub is_true : ℕ → Bool
is_true n = not (eqb n 0)

abbrev pub operate : Operator → ℕ → ℕ → ℕ
operate Plus x y = saturated (x + y)
operate Minus x y = x - y
operate Times x y = saturated (x * y)
operate Over x y = if eqb y 0 then 0 else x / y
operate Modulo x y = if eqb y 0 then 0 else x % y
operate ShiftLeft x y = if nat_lt y 64 then (x * 2 ^ y) % 2 ^ 64 else 0
operate ShiftRight x y = if nat_lt y 64 then x / 2 ^ y else 0
operate BitAnd x y = bit_and x y
operate BitXor x y = bit_xor x y
operate BitOr x y = bit_or x y
operate Same x y = truth (eqb x y)
operate Different x y = truth (not (eqb x y))
operate Below x y = truth (nat_lt x y)
operate AtMost x y = truth (nat_le x y)
operate Above x y = truth (nat_lt y x)
operate AtLeast x y = truth (nat_le y x)
operate Both x y = truth (is_true x && is_true y)
operate Either x y = truth (is_true x || is_true y)
operate Least x y = min x y
operate Greatest x y = max x y

-- the number of a table at an index, or 0 if the table has no such index
abbrev pub entry_of : List ℕ → ℕ → ℕ
entry_of table i = saturated (slice_index table i)

abbrev pub entry : Option (List ℕ) → ℕ → ℕ
entry None i = 0
entry (Some table) i = entry_of table i

-- a drawn word mod n, or 0 if n is 0
abbrev pub drawn_below : ℕ → ℕ → ℕ
drawn_below w n = if eqb n 0 then 0 else w % n

-- a number by a distribution with one parameter, from a drawn word w
abbrev pub drawn_by : Law → ℕ → ℕ → ℕ
drawn_by Uniform w n = drawn_below w n
drawn_by Exponential w mean = exponential mean w
drawn_by Geometric w mean = geometric mean w

-- a number about the handling
abbrev pub known_of : Context → Known → ℕ
known_of s Process = s.process
known_of s Sender = s.sender
known_of s Now = s.time
known_of s Processes = s.processes

-- the value of an expression before which k words were drawn
abbrev pub value_of : List (List ℕ) → Context → Expression → ℕ → ℕ
value_of tables s (Number n) k = saturated n
value_of tables s (Word i) k = slice_index s.words i
value_of tables s (Content i) k = slice_index s.content i
value_of tables s (Local i) k = slice_index s.locals i
value_of tables s (Read known) k = known_of s known
value_of tables s (Not' p x) k = truth (eqb (value_of tables s x k) 0)
value_of tables s (Two' o p x q y) k =
    operate o (value_of tables s x k) (value_of tables s y (k + draws x))
value_of tables s (Entry' t p x) k = entry (slice_get tables t) (value_of tables s x k)
value_of tables s (Draw' law p x) k =
    drawn_by law (word s.key s.process (k + draws x)) (value_of tables s x k)
value_of tables s (Normal' p x q y) k =
    normal (value_of tables s x k) (value_of tables s y (k + draws x))
    (word s.key s.process (k + draws x + draws y))
value_of tables s (Triangular' p x q y r z) k =
    triangular (value_of tables s x k) (value_of tables s y (k + draws x))
    (value_of tables s z (k + draws x + draws y))
    (word s.key s.process (k + draws x + draws y + draws z))
    (word s.key s.process (k + draws x + draws y + draws z + 1))
value_of tables s (Choose t) k = choice (slice_get tables t) (word s.key s.process k)
value_of tables s (Element' a p x) k = element a s.words (value_of tables s x k)
