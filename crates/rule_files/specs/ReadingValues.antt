-- The reader of values: one pass from the left.
use Rattle.std.specs.Prelude.{◌≡◌, ℕ, zero, suc, List, [], ◌∷◌, Option, Some, None, Result, Ok, Err, eqb, length, nat_lt, if◌then◌else◌}
use Rattle.rules.specs.declared.tree.Operator.{Operator}
use Rattle.rules.specs.declared.tree.Operator.TheVariants as o
use Rattle.rule_files.specs.declared.grammar.stop.ReadStop.{ReadStop}
use Rattle.rule_files.specs.declared.grammar.stop.ReadStop.TheVariants.{Memory, Refused}
use Rattle.rule_files.specs.declared.grammar.token.Mark.{Mark as MarkKind}
use Rattle.rule_files.specs.declared.grammar.token.Mark.TheVariants as m
use Rattle.rule_files.specs.declared.grammar.token.Token.{Token}
use Rattle.rule_files.specs.declared.grammar.token.Token.TheVariants as t
use Rattle.rule_files.specs.Grammar.{Tree, Number, Not, Two, Entry, Draw, Normal, Triangular, Choose, Element, code, height, leaf, looseness, member}

-- what a function returned, seen by view, is what reading gives, unless memory ran out
abbrev pub Fails : {Y : Type 0} → ReadStop → Option Y → Type 0
Fails Memory read = Unit {0}
Fails (Refused r) read = read ≡ None

abbrev pub Gives : {X Y : Type 0} → (X → Y) → Result X ReadStop → Option Y → Type 0
Gives view (Ok x) read = read ≡ Some (view x)
Gives view (Err e) read = Fails e read

infixl 10 ◌>>=◌
abbrev pub ◌>>=◌ : {A B : Type 0} → Option A → (A → Option B) → Option B
None >>= f = None
(Some x) >>= f = f x

-- a value, and the tokens after it
abbrev pub Reader : Type 0
Reader = List Token → Option (Tree × List Token)

-- a value that was put together, if it is not too deep
abbrev pub made : Tree → Reader
made x rest = if nat_lt 256 (height x) then None else Some (x, rest)

-- the tokens after a mark that comes first
abbrev pub behind : MarkKind → List Token → Option (List Token)
behind mark (t.Mark other ∷ rest) = if eqb (code other) (code mark) then Some rest else None
behind mark _ = None

-- the operator of this looseness that comes first
abbrev pub sign_at : ℕ → List Token → Option (Operator × List Token)
sign_at k (t.Sign o ∷ rest) = if eqb (looseness o) k then Some (o, rest) else None
sign_at k _ = None

-- what inner reads, and the mark that closes it
abbrev pub enclosed : MarkKind → Reader → Reader
enclosed closing inner ts = inner ts >>= λ p. behind closing p.1 >>= λ rest. Some (p.0, rest)

-- what is made of two values in brackets
abbrev pub pair_at : (Tree → Tree → Tree) → Reader → Reader
pair_at make inner ts =
    behind m.Open ts >>= λ us. enclosed m.Comma inner us >>= λ p. enclosed m.Close inner p.1 >>= λ q. made (make p.0 q.0) q.1

-- three values in brackets
abbrev pub three_at : Reader → Reader
three_at inner ts =
    behind m.Open ts >>= λ us. enclosed m.Comma inner us >>= λ p. enclosed m.Comma inner p.1 >>= λ q. enclosed m.Close inner q.1 >>= λ r.
    made (Triangular p.0 q.0 r.0) r.1

-- the table that comes first
abbrev pub table_at : List Token → Option (ℕ × List Token)
table_at (t.Table table ∷ rest) = Some (table, rest)
table_at _ = None

-- a table in brackets
abbrev pub chosen_at : Reader
chosen_at ts = behind m.Open ts >>= λ us. table_at us >>= λ p. behind m.Close p.1 >>= λ rest. Some (Choose p.0, rest)

-- what begins with a mark
abbrev pub by_mark : MarkKind → (ℕ → Reader) → Reader
by_mark m.Not inner ts = inner 0 ts >>= λ p. made (Not p.0) p.1
by_mark m.Open inner ts = enclosed m.Close (inner 9) ts
by_mark (m.Draw law) inner ts = behind m.Open ts >>= λ us. enclosed m.Close (inner 9) us >>= λ p. made (Draw law p.0) p.1
by_mark m.Normal inner ts = pair_at Normal (inner 9) ts
by_mark m.Triangular inner ts = three_at (inner 9) ts
by_mark m.Choose inner ts = chosen_at ts
by_mark m.Min inner ts = pair_at (Two o.Least) (inner 9) ts
by_mark m.Max inner ts = pair_at (Two o.Greatest) (inner 9) ts
by_mark _ inner ts = None

abbrev pub and_rest : Option Tree → Reader
and_rest None rest = None
and_rest (Some x) rest = Some (x, rest)

-- the number of a kind's processes, or one of them by its index
abbrev pub of_kind : Option (List Token) → ℕ → ℕ → Reader → Reader
of_kind (Some rest) first count inner ts = Some (Number count, rest)
of_kind None first count inner ts = behind m.OpenIndex ts >>= λ us. enclosed m.CloseIndex inner us >>= λ p. made (member first count p.0) p.1

-- a value without operators outside brackets, but for `!`
abbrev pub primary : List ℕ → (ℕ → Reader) → Reader
primary names inner (t.Mark mark ∷ rest) = by_mark mark inner rest
primary names inner (t.Table table ∷ rest) = behind m.OpenIndex rest >>= λ us. enclosed m.CloseIndex (inner 9) us >>= λ p. made (Entry table p.0) p.1
primary names inner (t.Array array ∷ rest) = behind m.OpenIndex rest >>= λ us. enclosed m.CloseIndex (inner 9) us >>= λ p. made (Element array p.0) p.1
primary names inner (t.Kind first count ∷ rest) = of_kind (behind m.Count rest) first count (inner 9) rest
primary names inner (token ∷ rest) = and_rest (leaf names token) rest
primary names inner [] = None

-- by the operator that comes first, or not at all
abbrev pub go : Option (Operator × List Token) → Tree → List Token → Reader → (Tree → Reader) → Option (Tree × List Token)
go None x ts operand more = Some (x, ts)
go (Some p) x ts operand more = operand p.1 >>= λ q. made (Two p.0 x q.0) q.1 >>= λ r. more r.0 r.1

-- goes on after a left side, for at most n operators of this looseness
abbrev pub chain : ℕ → Reader → ℕ → Tree → Reader
chain k operand zero x ts = Some (x, ts)
chain k operand (suc n) x ts = go (sign_at k ts) x ts operand (chain k operand n)

-- comparisons do not chain
abbrev pub turns : ℕ → ℕ → ℕ
turns k n = if eqb k 7 then 1 else n

-- at most n operators in a row
abbrev pub level : List ℕ → ℕ → (ℕ → Reader) → ℕ → Reader
level names n inner zero ts = primary names inner ts
level names n inner (suc k) ts = level names n inner k ts >>= λ p. chain (suc k) (level names n inner k) (turns (suc k) n) p.0 p.1

-- nested at most d deep
abbrev pub inside : List ℕ → ℕ → ℕ → ℕ → Reader
inside names n zero k ts = None
inside names n (suc d) k ts = level names n (inside names n d) k ts

-- the longest value that comes first
unfoldable pub value_at : List ℕ → ℕ → Reader
value_at names d ts = level names (length ts) (inside names (length ts) d) 9 ts
