-- What `check` prints of a model by rules: its names, its tables, and its
-- rules laid out. Each definition is a text with something after it.
use Rattle.std.specs.Prelude.{ℕ, zero, suc, ◌+◌, ◌-◌, ◌*◌, ◌^◌, ◌==◌, ◌||◌, List, [], ◌∷◌, ◌++◌, Bool}
use Rattle.std.specs.Prelude.{true, false, codes, decimal, if◌then◌else◌, get_or, length, map, min}
use Rattle.std.specs.Prelude.{nat_lt, not, slice_index, slice_set, string_bytes, take}
use Rattle.rule_files.specs.Arrays.{array_view}
use Rattle.rule_files.specs.Grammar.{looseness}
use Rattle.rule_files.specs.Reading.{value_of}
use Rattle.rules.specs.declared.arrays.Array.{Array}
use Rattle.rule_files.specs.RuleFile.{other_names}
use Rattle.rule_files.specs.declared.file_model.FileNames.{FileNames}
use Rattle.rule_files.specs.declared.file_model.KindNames.{KindNames}
use Rattle.rule_files.specs.declared.kinds.KindHead.{KindHead}
use Rattle.rule_files.specs.declared.printed.Layout.{Layout}
use Rattle.rule_files.specs.declared.printed.Otherwise.{Otherwise}
use Rattle.rule_files.specs.declared.printed.Otherwise.TheVariants.{Block, Choice, Nothing}
use Rattle.rule_files.specs.declared.scope.Named.{Named}
use Rattle.rule_files.specs.declared.scope.NamedSort.{NamedSort}
use Rattle.rules.specs.Rules.{Description}
use Rattle.rules.specs.declared.tree.Expression.{Expression}
use Rattle.rules.specs.declared.tree.Expression.TheVariants.{Number, Word, Content, Local, Read}
use Rattle.rules.specs.declared.tree.Expression.TheVariants.{Not', Two', Entry', Draw', Normal'}
use Rattle.rules.specs.declared.tree.Expression.TheVariants.{Triangular', Choose, Element'}
use Rattle.rules.specs.declared.tree.Known.{Known}
use Rattle.rules.specs.declared.tree.Known.TheVariants.{Process, Sender, Now, Processes}
use Rattle.rules.specs.declared.tree.Law.{Law}
use Rattle.rules.specs.declared.tree.Law.TheVariants.{Uniform, Exponential, Geometric}
use Rattle.rules.specs.declared.tree.Operator.{Operator}
use Rattle.rules.specs.declared.tree.Operator.TheVariants.{Plus, Minus, Times, Over, Modulo}
use Rattle.rules.specs.declared.tree.Operator.TheVariants.{ShiftLeft, ShiftRight, BitAnd, BitXor}
use Rattle.rules.specs.declared.tree.Operator.TheVariants.{BitOr, Same, Different, Below, AtMost}
use Rattle.rules.specs.declared.tree.Operator.TheVariants.{Above, AtLeast, Both, Either, Least}
use Rattle.rules.specs.declared.tree.Operator.TheVariants.{Greatest}
use Rattle.rules.specs.declared.tree.Sending.{Sending}
use Rattle.rules.specs.declared.tree.Statement.{Statement, Row_of-Statement, end_of-Statement}
use Rattle.rules.specs.declared.tree.Statement.{items-the_row-Statement, more_of-Statement}
use Rattle.rules.specs.declared.tree.Statement.TheVariants.{Let, Set, Send, If', Repeat', RepeatUntil'}
use Rattle.rules.specs.declared.tree.Statement.TheVariants.{Put}

-- 1. Signs

-- how loosely the values of an operator may bind without parentheses
abbrev pub left_looseness : Operator → ℕ
left_looseness o =
    if looseness o == 0 then 9 else if looseness o == 7 then 6 else looseness o

abbrev pub right_looseness : Operator → ℕ
right_looseness o =
    if looseness o == 0 then 9 else if looseness o == 7 then 6 else looseness o - 1

-- what stands between the two values of an operator, and what before and after them: parentheses
-- where only values that bind at most so loosely may stand
abbrev pub sign : Operator → List ℕ
sign Plus = codes " + "
sign Minus = codes " - "
sign Times = codes " * "
sign Over = codes " / "
sign Modulo = codes " % "
sign ShiftLeft = codes " << "
sign ShiftRight = codes " >> "
sign BitAnd = codes " & "
sign BitXor = codes " ^ "
sign BitOr = codes " | "
sign Same = codes " == "
sign Different = codes " != "
sign Below = codes " < "
sign AtMost = codes " <= "
sign Above = codes " > "
sign AtLeast = codes " >= "
sign Both = codes " && "
sign Either = codes " || "
sign Least = codes ", "
sign Greatest = codes ", "

abbrev pub function_name : Operator → List ℕ
function_name Least = codes "min("
function_name Greatest = codes "max("
function_name o = []

abbrev pub before : ℕ → Operator → List ℕ
before most o = if nat_lt most (looseness o) then codes "(" else function_name o

abbrev pub behind : ℕ → Operator → List ℕ
behind most o = if nat_lt most (looseness o) || looseness o == 0 then codes ")" else []

abbrev pub known_text : Known → List ℕ
known_text Process = codes "self"
known_text Sender = codes "sender"
known_text Now = codes "now"
known_text Processes = codes "lps"

abbrev pub law_name : Law → List ℕ
law_name Uniform = codes "draw("
law_name Exponential = codes "exponential("
law_name Geometric = codes "geometric("

-- 2. Names

-- the name at a place, or nothing
abbrev pub name_at : List (List ℕ) → ℕ → List ℕ
name_at names i = get_or names i []

-- a word of content without a name of its own is called by its place
abbrev pub content_name : List (List ℕ) → ℕ → List ℕ
content_name names i =
    if length (name_at names i) == 0 then name_at other_names i else name_at names i

abbrev pub next : ℕ → ℕ
next n = min (n + 1) (2 ^ 64 - 1)

abbrev pub deeper : Layout → Layout
deeper at = record { depth = next at.depth; inline = false; scope = at.scope }

abbrev pub in_line : Layout → Layout
in_line at = record { depth = at.depth; inline = true; scope = at.scope }

abbrev pub with_local : ℕ → ℕ → Layout → Layout
with_local place name at =
    record { depth = at.depth; inline = at.inline; scope = slice_set at.scope place name }

-- where the statements after this one stand
abbrev pub passed : Statement → ℕ → Layout → Layout
passed (Let i e) k at = with_local i k at
passed s k at = at

-- the number of names that a rule has given, before and after a statement
abbrev mutual
  pub named : Statement → ℕ → ℕ
  named (Let i e) k = next k
  named (Set i e) k = k
  named (Send x) k = k
  named (If' e s met t unmet) k = named_row unmet (named_row met k)
  named (Repeat' i n s body) k = named_row body (next k)
  named (RepeatUntil' i n e s body) k = named_row body (next k)
  named (Put a i e) k = k

  pub named_row : {m : _} → Row_of-Statement m → ℕ → ℕ
  named_row end_of-Statement k = k
  named_row (more_of-Statement x rest) k = named_row rest (named x k)

abbrev pub named_all : List Statement → ℕ → ℕ
named_all [] k = k
named_all (x ∷ xs) k = named_all xs (named x k)

-- 3. Values and statements

-- four spaces for each block around
abbrev pub with_indent : ℕ → List ℕ → List ℕ
with_indent zero text = text
with_indent (suc depth) text = with_indent depth text ++ codes "    "

abbrev pub with_margin : Layout → List ℕ → List ℕ
with_margin at text = if at.inline then text else with_indent at.depth text

abbrev pub is_zero : Expression → Bool
is_zero (Number n) = n == 0
is_zero e = false

abbrev pub is_choice : Statement → Bool
is_choice (If' e s met t unmet) = true
is_choice s = false

abbrev pub either_choice : Bool → Otherwise
either_choice choice = if choice then Choice else Block

-- what stands after a block that is run if a value is not 0: nothing, one more choice, or a block
abbrev pub otherwise_row : {m : _} → Row_of-Statement m → Otherwise
otherwise_row end_of-Statement = Nothing
otherwise_row (more_of-Statement x end_of-Statement) = either_choice (is_choice x)
otherwise_row (more_of-Statement x (more_of-Statement y rest)) = Block

abbrev pub otherwise_of : List Statement → Otherwise
otherwise_of [] = Nothing
otherwise_of (x ∷ []) = either_choice (is_choice x)
otherwise_of (x ∷ (y ∷ rest)) = Block

abbrev pub opening : Otherwise → List ℕ
opening Nothing = codes "}\n"
opening Choice = codes "} else "
opening Block = codes "} else {\n"

abbrev pub otherwise_layout : Otherwise → Layout → Layout
otherwise_layout Nothing at = deeper at
otherwise_layout Choice at = in_line at
otherwise_layout Block at = deeper at

abbrev pub with_closing : Otherwise → Layout → List ℕ → List ℕ
with_closing Nothing at text = text
with_closing Choice at text = text
with_closing Block at text = with_indent at.depth text ++ codes "}\n"

-- the mark, if something stands after it
abbrev pub mark_if : Bool → List ℕ → List ℕ
mark_if stands mark = if stands then mark else []

-- a name of `let` or `repeat` by its place
abbrev pub local_name : List (List ℕ) → Layout → ℕ → List ℕ
local_name given at i = name_at given (slice_index at.scope i)

-- the name of the array at the place of this one, or nothing
abbrev pub array_name : List (List ℕ × Array) → Array → List ℕ
array_name [] a = []
array_name (named ∷ others) a =
    if named.1.place == a.place then named.0 else array_name others a

-- the names of a model, and the names that `let` and `repeat` give in this rule, in their order
module _ (names : FileNames) (given : List (List ℕ)) where
  abbrev pub word_name : ℕ → List ℕ
  word_name i = name_at (map string_bytes names.words.items) i

  -- the text and a value, with parentheses if it binds more loosely than `most`
  abbrev pub with_value : Layout → ℕ → List ℕ → Expression → List ℕ
  with_value at most text (Number n) = text ++ decimal n
  with_value at most text (Word i) = text ++ word_name i
  with_value at most text (Content i) =
      text ++ content_name (map string_bytes names.content.items) i
  with_value at most text (Local i) = text ++ local_name given at i
  with_value at most text (Read known) = text ++ known_text known
  with_value at most text (Not' p x) = with_value at 0 (text ++ codes "!") x
  with_value at most text (Two' o p x q y) =
      with_value at (right_looseness o)
      (with_value at (left_looseness o) (text ++ before most o) x ++ sign o) y ++ behind most o
  with_value at most text (Entry' t p x) =
      with_value at 9
      ((text ++ name_at (map string_bytes names.tables.items) t) ++ codes "[") x ++ codes "]"
  with_value at most text (Draw' law p x) = with_value at 9 (text ++ law_name law) x ++ codes ")"
  with_value at most text (Normal' p x q y) =
      with_value at 9 (with_value at 9 (text ++ codes "normal(") x ++ codes ", ") y ++ codes ")"
  with_value at most text (Triangular' p x q y r z) =
      with_value at 9 (with_value at 9 (with_value at 9 (text ++ codes "triangular(") x
      ++ codes ", ") y ++ codes ", ") z ++ codes ")"
  with_value at most text (Choose t) =
      ((text ++ codes "choose(") ++ name_at (map string_bytes names.tables.items) t) ++ codes ")"
  with_value at most text (Element' a p x) =
      with_value at 9
      ((text ++ array_name (map array_view names.arrays.items) a) ++ codes "[") x ++ codes "]"

  -- an element of an array
  abbrev pub with_element : Layout → List ℕ → Array → Expression → List ℕ
  with_element at text a i =
      with_value at 9
      ((text ++ array_name (map array_view names.arrays.items) a) ++ codes "[") i ++ codes "]"

  -- a word of content after its mark, or nothing
  abbrev pub with_word : Layout → List ℕ → List ℕ → Expression → List ℕ
  with_word at mark text e =
      if length mark == 0 then text else with_value at 9 (text ++ mark) e

  -- the words of content up to the last that is not 0
  abbrev pub with_content : Layout → List ℕ → Sending → List ℕ
  with_content at text x =
      let fourth = not (is_zero x.d) in
      let third = fourth || not (is_zero x.c) in
      let second = third || not (is_zero x.b) in
      let first = second || not (is_zero x.a) in
      with_word at (mark_if fourth (codes ", ")) (with_word at (mark_if third (codes ", "))
      (with_word at (mark_if second (codes ", "))
      (with_word at (mark_if first (codes " with ")) text x.a) x.b) x.c) x.d

  abbrev pub with_sending : Layout → List ℕ → Sending → List ℕ
  with_sending at text x =
      with_content at (with_value at 9 (with_value at 9 (text ++ codes "send to ") x.to
      ++ codes " after ") x.after) x ++ codes "\n"

  -- the text and a statement, before which the rule has given k names
  abbrev mutual
    pub with_statement : Layout → ℕ → List ℕ → Statement → List ℕ
    with_statement at k text (Let i e) =
        with_value at 9 (((with_margin at text ++ codes "let ") ++ name_at given k) ++ codes " = ") e
        ++ codes "\n"
    with_statement at k text (Set i e) =
        with_value at 9 ((with_margin at text ++ word_name i) ++ codes " = ") e ++ codes "\n"
    with_statement at k text (Put a i e) =
        with_value at 9 (with_element at (with_margin at text) a i ++ codes " = ") e ++ codes "\n"
    with_statement at k text (Send x) = with_sending at (with_margin at text) x
    with_statement at k text (If' e s met t unmet) =
        with_closing (otherwise_row unmet) at
        (with_row (otherwise_layout (otherwise_row unmet) at) (named_row met k)
        (with_indent at.depth (with_row (deeper at) k
        (with_value at 9 (with_margin at text ++ codes "if ") e ++ codes " {\n") met)
        ++ opening (otherwise_row unmet)) unmet)
    with_statement at k text (Repeat' i n s body) =
        with_indent at.depth (with_row (deeper (with_local i k at)) (next k)
        (((((with_margin at text ++ codes "repeat ") ++ name_at given k) ++ codes " ") ++ decimal n)
        ++ codes " {\n") body) ++ codes "}\n"
    with_statement at k text (RepeatUntil' i n e s body) =
        with_indent at.depth (with_row (deeper (with_local i k at)) (next k)
        (with_value (with_local i k at) 9
        (((((with_margin at text ++ codes "repeat ") ++ name_at given k) ++ codes " ") ++ decimal n)
        ++ codes " until ") e ++ codes " {\n") body) ++ codes "}\n"

    pub with_row : {m : _} → Layout → ℕ → List ℕ → Row_of-Statement m → List ℕ
    with_row at k text end_of-Statement = text
    with_row at k text (more_of-Statement x rest) =
        with_row (passed x k at) (named x k) (with_statement at k text x) rest

  abbrev pub with_block : Layout → ℕ → List ℕ → List Statement → List ℕ
  with_block at k text [] = text
  with_block at k text (x ∷ xs) =
      with_block (passed x k at) (named x k) (with_statement at k text x) xs

-- 4. A model

abbrev pub with_names : List ℕ → List (List ℕ) → List ℕ
with_names text [] = text
with_names text (name ∷ names) = with_names ((text ++ codes " ") ++ name) names

abbrev pub with_words : List ℕ → List (List ℕ) → List ℕ
with_words text words = with_names (text ++ codes "state:") words ++ codes "\n"

abbrev pub unit : ℕ → List ℕ
unit bits = if bits == 1 then codes " bit\n" else codes " bits\n"

abbrev pub with_array : List ℕ → List ℕ × Array → List ℕ
with_array text a =
    ((((((text ++ codes "array ") ++ a.0) ++ codes "[") ++ decimal a.1.count) ++ codes "]: ")
    ++ decimal a.1.bits) ++ unit a.1.bits

abbrev pub each_array : List ℕ → List (List ℕ × Array) → List ℕ
each_array text [] = text
each_array text (a ∷ others) = each_array (with_array text a) others

-- the bits of a state with `n` words
abbrev pub with_bits : List ℕ → ℕ → List ℕ
with_bits text words =
    ((text ++ codes "bits of state: ") ++ decimal (min (words * 64) (2 ^ 64 - 1)))
    ++ codes " of 1024\n"

-- the arrays, and the bits of the state, if there are arrays
abbrev pub with_arrays : List ℕ → List (List ℕ × Array) → ℕ → List ℕ
with_arrays text arrays words =
    if length arrays == 0 then each_array text arrays
    else with_bits (each_array text arrays) words

abbrev pub with_contents : List ℕ → List (List ℕ) → List ℕ
with_contents text names =
    ((((((((text ++ codes "message: ") ++ content_name names 0) ++ codes " ")
    ++ content_name names 1) ++ codes " ") ++ content_name names 2) ++ codes " ")
    ++ content_name names 3) ++ codes "\n"

-- a sort of messages: its number, its name, and its fields
abbrev pub with_sort : ℕ → List ℕ → NamedSort → List ℕ
with_sort i text s =
    with_names ((((text ++ codes "sort ") ++ decimal i) ++ codes ": ") ++ string_bytes s.name)
    (map string_bytes s.fields.items) ++ codes "\n"

abbrev pub with_sorts : ℕ → List ℕ → List NamedSort → List ℕ
with_sorts i text [] = text
with_sorts i text (s ∷ ss) = with_sorts (i + 1) (with_sort i text s) ss

abbrev pub with_number : List ℕ → Named → List ℕ
with_number text n =
    ((((text ++ codes "number ") ++ string_bytes n.name) ++ codes ": ")
    ++ decimal (value_of n.numbers.items)) ++ codes "\n"

abbrev pub with_numbers : List ℕ → List Named → List ℕ
with_numbers text [] = text
with_numbers text (n ∷ ns) = with_numbers (with_number text n) ns

abbrev pub with_figures : List ℕ → List ℕ → List ℕ
with_figures text [] = text
with_figures text (n ∷ ns) = with_figures ((text ++ codes " ") ++ decimal n) ns

-- a table: its name, its length, and its first eight numbers
abbrev pub with_table : List ℕ → List ℕ → List ℕ → List ℕ
with_table text name table =
    (with_figures (((((text ++ codes "table ") ++ name) ++ codes " (") ++ decimal (length table))
    ++ codes "):") (take (min (length table) 8) table)
    ++ mark_if (nat_lt 8 (length table)) (codes " ..")) ++ codes "\n"

abbrev pub with_tables : ℕ → List (List ℕ) → List ℕ → List (List ℕ) → List ℕ
with_tables i names text [] = text
with_tables i names text (table ∷ tables) =
    with_tables (i + 1) names (with_table text (name_at names i) table) tables

-- the layout of the first statement of a rule
abbrev pub outermost : Layout
outermost = record {
  depth = 1;
  inline = false;
  scope = 0 ∷ 0 ∷ 0 ∷ 0 ∷ 0 ∷ 0 ∷ 0 ∷ 0 ∷ 0 ∷ 0 ∷ 0 ∷ 0 ∷ 0 ∷ 0 ∷ 0 ∷ 0 ∷ [];
}

-- the rules for the start and for a message, of the names of a kind
abbrev pub with_both : FileNames → List Statement → List Statement → List ℕ → List ℕ
with_both names start handle text =
    with_block names (map string_bytes names.handle.items) outermost 0
    (with_block names (map string_bytes names.start.items) outermost 0 (text ++ codes "start:\n")
    start ++ codes "handle:\n") handle

abbrev pub with_model : FileNames → Description → List ℕ → List ℕ
with_model names d text =
    with_both names d.start d.handle (with_tables 0 (map string_bytes names.tables.items)
    (with_numbers (with_sorts 0 (with_contents (with_arrays
    (with_words text (map string_bytes names.words.items))
    (map array_view names.arrays.items) (length names.words.items))
    (map string_bytes names.content.items)) names.sorts.items) names.numbers.items) d.tables)

-- 5. A model with kinds of processes

-- the block of the first kind, and the rule for the kinds after it
abbrev pub block_of : List Statement → List Statement
block_of (If' e s met t unmet ∷ []) = items-the_row-Statement _ met
block_of rule = []

abbrev pub rest_of : List Statement → List Statement
rest_of (If' e s met t unmet ∷ []) = items-the_row-Statement _ unmet
rest_of rule = []

-- the last process of a kind
abbrev pub last_of : KindHead → ℕ
last_of k = k.first + k.count - 1

abbrev pub with_head : KindHead → List ℕ → List ℕ
with_head k text =
    ((((((((text ++ codes "kind ") ++ string_bytes k.name) ++ codes ": ") ++ decimal k.count)
    ++ codes " (") ++ decimal k.first) ++ codes " to ") ++ decimal (last_of k)) ++ codes ")\n"

-- a kind: its processes, its names, the bits of its state, and its rules
abbrev pub with_kind : KindNames → List Statement → List Statement → List ℕ → List ℕ
with_kind k start handle text =
    with_both k.names start handle (with_contents (with_bits (each_array
    (with_words (with_head k.head text) (map string_bytes k.names.words.items))
    (map array_view k.names.arrays.items)) (length k.names.words.items))
    (map string_bytes k.names.content.items))

abbrev pub with_each : List KindNames → List Statement → List Statement → List ℕ → List ℕ
with_each [] start handle text = text
with_each (k ∷ ks) start handle text =
    with_each ks (rest_of start) (rest_of handle)
    (with_kind k (block_of start) (block_of handle) text)

-- what all kinds have in common, from the names of the first one
abbrev pub with_common : List KindNames → List (List ℕ) → List ℕ → List ℕ
with_common [] tables text = text
with_common (k ∷ ks) tables text =
    with_tables 0 (map string_bytes k.names.tables.items)
    (with_numbers (with_sorts 0 text k.names.sorts.items) k.names.numbers.items) tables

abbrev pub with_kinds_model : List KindNames → Description → List ℕ → List ℕ
with_kinds_model kinds d text =
    with_each kinds d.start d.handle (with_common kinds d.tables text)
