-- Which tokens form which value, as the grammar's own rules.
use Rattle.std.specs.Prelude.{◌≡◌, ℕ, suc, ◌+◌, ◌≤◌, List, [], ◌∷◌, ◌++◌, Option, Some, None, eqb, max, if◌then◌else◌}
use Rattle.rules.specs.declared.arrays.Array.{Array}
use Rattle.rules.specs.declared.tree.Expression.{Expression}
use Rattle.rules.specs.declared.tree.Expression.TheVariants as e
use Rattle.rules.specs.declared.tree.Known.{Known as Knowledge}
use Rattle.rules.specs.declared.tree.Known.TheVariants as k
use Rattle.rules.specs.declared.tree.Law.{Law}
use Rattle.rules.specs.declared.tree.Law.TheVariants as l
use Rattle.rules.specs.declared.tree.Operator.{Operator}
use Rattle.rules.specs.declared.tree.Operator.TheVariants as o
use Rattle.rule_files.specs.declared.grammar.token.Mark.{Mark as MarkKind}
use Rattle.rule_files.specs.declared.grammar.token.Mark.TheVariants as m
use Rattle.rule_files.specs.declared.grammar.token.Token.{Token}
use Rattle.rule_files.specs.declared.grammar.token.Token.TheVariants as t

-- a value without the places of its parts in memory
pub data Tree : Type 0 where
  Number : (n : ℕ) → Tree
  Word : (i : ℕ) → Tree
  Content : (i : ℕ) → Tree
  Local : (i : ℕ) → Tree
  Read : (known : Knowledge) → Tree
  Not : (x : Tree) → Tree
  Two : (o : Operator) (x y : Tree) → Tree
  Entry : (table : ℕ) (x : Tree) → Tree
  Draw : (law : Law) (x : Tree) → Tree
  Normal : (x y : Tree) → Tree
  Triangular : (x y z : Tree) → Tree
  Choose : (table : ℕ) → Tree
  Element : (array : Array) (x : Tree) → Tree

-- the tree of an expression
abbrev pub tree_of : Expression → Tree
tree_of (e.Number n) = Number n
tree_of (e.Word i) = Word i
tree_of (e.Content i) = Content i
tree_of (e.Local i) = Local i
tree_of (e.Read known) = Read known
tree_of (e.Not' p x) = Not (tree_of x)
tree_of (e.Two' o p x q y) = Two o (tree_of x) (tree_of y)
tree_of (e.Entry' table p x) = Entry table (tree_of x)
tree_of (e.Draw' law p x) = Draw law (tree_of x)
tree_of (e.Normal' p x q y) = Normal (tree_of x) (tree_of y)
tree_of (e.Triangular' p x q y r z) = Triangular (tree_of x) (tree_of y) (tree_of z)
tree_of (e.Choose table) = Choose table
tree_of (e.Element' array p x) = Element array (tree_of x)

-- how many operators deep a value is
abbrev pub height : Tree → ℕ
height (Not x) = height x + 1
height (Two o x y) = max (height x) (height y) + 1
height (Entry table x) = height x + 1
height (Draw law x) = height x + 1
height (Element array x) = height x + 1
height (Normal x y) = max (height x) (height y) + 1
height (Triangular x y z) = max (max (height x) (height y)) (height z) + 1
height _ = 0

-- how loosely an operator binds, from 1
abbrev pub looseness : Operator → ℕ
looseness o.Times = 1
looseness o.Over = 1
looseness o.Modulo = 1
looseness o.Plus = 2
looseness o.Minus = 2
looseness o.ShiftLeft = 3
looseness o.ShiftRight = 3
looseness o.BitAnd = 4
looseness o.BitXor = 5
looseness o.BitOr = 6
looseness o.Both = 8
looseness o.Either = 9
looseness o.Least = 0
looseness o.Greatest = 0
looseness _ = 7

abbrev pub law_code : Law → ℕ
law_code l.Uniform = 19
law_code l.Exponential = 21
law_code l.Geometric = 22

-- marks as numbers, by which they are compared
abbrev pub code : MarkKind → ℕ
code m.Not = 0
code m.Is = 1
code m.Comma = 2
code m.Open = 3
code m.Close = 4
code m.OpenIndex = 5
code m.CloseIndex = 6
code m.OpenBlock = 7
code m.CloseBlock = 8
code m.Let = 9
code m.Send = 10
code m.To = 11
code m.After = 12
code m.With = 13
code m.If = 14
code m.Else = 15
code m.Repeat = 16
code m.Min = 17
code m.Max = 18
code (m.Draw law) = law_code law
code m.Kept = 20
code m.Normal = 23
code m.Triangular = 24
code m.Choose = 25
code m.Count = 26

-- the place of a name among those in scope, from the outermost; the first of these has place i
abbrev pub place_from : ℕ → ℕ → List ℕ → Option ℕ
place_from i name [] = None
place_from i name (n ∷ ns) = if eqb n name then Some i else place_from (i + 1) name ns

abbrev pub place_of : ℕ → List ℕ → Option ℕ
place_of name names = place_from 0 name names

abbrev pub local_at : Option ℕ → Option Tree
local_at None = None
local_at (Some i) = Some (Local i)

-- a process of a kind: the first one, and as many further as the index says, mod the number of them
abbrev pub member : ℕ → ℕ → Tree → Tree
member first count x = Two o.Plus (Number first) (Two o.Modulo x (Number count))

-- the place of the process within its kind
abbrev pub own_place : ℕ → Tree
own_place first = Two o.Minus (Read k.Process) (Number first)

-- the value of a token that is one by itself
abbrev pub leaf : List ℕ → Token → Option Tree
leaf names (t.Number n) = Some (Number n)
leaf names (t.Known known) = Some (Read known)
leaf names (t.Word i) = Some (Word i)
leaf names (t.Content i) = Some (Content i)
leaf names (t.Own first) = Some (own_place first)
leaf names (t.Sort sort) = Some (Number sort.number)
leaf names (t.Name name) = local_at (place_of name names)
leaf names _ = None

-- With these names in scope the tokens form the value, nested at most d deep, with no operator outside brackets that binds more loosely
-- than k. Operators of one strength go from the left; comparisons, of looseness 7, have tighter values on both sides. No value is more than
-- 256 operators deep.
pub data Spells (names : List ℕ) : (d k : ℕ) → Tree → List Token → Type 0 where
  a_leaf : (d : ℕ) (x : Tree) (token : Token) → leaf names token ≡ Some x → Spells names d 0 x (token ∷ [])
  a_not : (d : ℕ) (x : Tree) (ts : List Token) → height (Not x) ≤ 256 → Spells names d 0 x ts → Spells names (suc d) 0 (Not x) (t.Mark m.Not ∷ ts)
  in_brackets : (d : ℕ) (x : Tree) (ts : List Token) → Spells names d 9 x ts → Spells names (suc d) 0 x (t.Mark m.Open ∷ (ts ++ t.Mark m.Close ∷ []))
  an_entry : (d table : ℕ) (x : Tree) (ts : List Token) → height (Entry table x) ≤ 256 → Spells names d 9 x ts →
      Spells names (suc d) 0 (Entry table x) (t.Table table ∷ t.Mark m.OpenIndex ∷ (ts ++ t.Mark m.CloseIndex ∷ []))
  an_element : (d : ℕ) (array : Array) (x : Tree) (ts : List Token) → height (Element array x) ≤ 256 → Spells names d 9 x ts →
      Spells names (suc d) 0 (Element array x) (t.Array array ∷ t.Mark m.OpenIndex ∷ (ts ++ t.Mark m.CloseIndex ∷ []))
  a_member : (d first count : ℕ) (x : Tree) (ts : List Token) → height (member first count x) ≤ 256 → Spells names d 9 x ts →
      Spells names (suc d) 0 (member first count x) (t.Kind first count ∷ t.Mark m.OpenIndex ∷ (ts ++ t.Mark m.CloseIndex ∷ []))
  a_count : (d first count : ℕ) → Spells names d 0 (Number count) (t.Kind first count ∷ t.Mark m.Count ∷ [])
  a_draw : (d : ℕ) (law : Law) (x : Tree) (ts : List Token) → height (Draw law x) ≤ 256 → Spells names d 9 x ts →
      Spells names (suc d) 0 (Draw law x) (t.Mark (m.Draw law) ∷ t.Mark m.Open ∷ (ts ++ t.Mark m.Close ∷ []))
  a_normal : (d : ℕ) (x y : Tree) (ts us : List Token) → height (Normal x y) ≤ 256 → Spells names d 9 x ts → Spells names d 9 y us →
      Spells names (suc d) 0 (Normal x y) (t.Mark m.Normal ∷ t.Mark m.Open ∷ (ts ++ t.Mark m.Comma ∷ (us ++ t.Mark m.Close ∷ [])))
  a_triangular : (d : ℕ) (x y z : Tree) (ts us vs : List Token) → height (Triangular x y z) ≤ 256 →
      Spells names d 9 x ts → Spells names d 9 y us → Spells names d 9 z vs →
      Spells names (suc d) 0 (Triangular x y z)
      (t.Mark m.Triangular ∷ t.Mark m.Open ∷ (ts ++ t.Mark m.Comma ∷ (us ++ t.Mark m.Comma ∷ (vs ++ t.Mark m.Close ∷ []))))
  a_chosen : (d table : ℕ) → Spells names d 0 (Choose table) (t.Mark m.Choose ∷ t.Mark m.Open ∷ t.Table table ∷ t.Mark m.Close ∷ [])
  the_least : (d : ℕ) (x y : Tree) (ts us : List Token) → height (Two o.Least x y) ≤ 256 → Spells names d 9 x ts → Spells names d 9 y us →
      Spells names (suc d) 0 (Two o.Least x y) (t.Mark m.Min ∷ t.Mark m.Open ∷ (ts ++ t.Mark m.Comma ∷ (us ++ t.Mark m.Close ∷ [])))
  the_greatest : (d : ℕ) (x y : Tree) (ts us : List Token) → height (Two o.Greatest x y) ≤ 256 → Spells names d 9 x ts → Spells names d 9 y us →
      Spells names (suc d) 0 (Two o.Greatest x y) (t.Mark m.Max ∷ t.Mark m.Open ∷ (ts ++ t.Mark m.Comma ∷ (us ++ t.Mark m.Close ∷ [])))
  compared : (d : ℕ) (o : Operator) (x y : Tree) (ts us : List Token) → looseness o ≡ 7 → height (Two o x y) ≤ 256 →
      Spells names d 6 x ts → Spells names d 6 y us → Spells names d 7 (Two o x y) (ts ++ (t.Sign o ∷ us))
  joined : (d k : ℕ) (o : Operator) (x y : Tree) (ts us : List Token) → looseness o ≡ suc k → (k ≡ 6 → ⊥) → height (Two o x y) ≤ 256 →
      Spells names d (suc k) x ts → Spells names d k y us → Spells names d (suc k) (Two o x y) (ts ++ (t.Sign o ∷ us))
  tighter : (d k : ℕ) (x : Tree) (ts : List Token) → Spells names d k x ts → Spells names d (suc k) x ts
