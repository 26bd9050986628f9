-- Which tokens form which statements, as the grammar's own rules.
use Rattle.std.specs.Prelude.{◌≡◌, ℕ, suc, ◌<◌, ◌^◌, List, [], ◌∷◌, ◌++◌, None, Bool, true, false, eqb, length}
use Rattle.rules.specs.declared.arrays.Array.{Array}
use Rattle.rules.specs.declared.tree.Operator.TheVariants as o
use Rattle.rules.specs.declared.tree.Sending.{Sending}
use Rattle.rules.specs.declared.tree.Statement.{Statement, Row_of-Statement, end_of-Statement, more_of-Statement}
use Rattle.rules.specs.declared.tree.Statement.TheVariants as s
use Rattle.rule_files.specs.declared.grammar.token.Mark.{Mark}
use Rattle.rule_files.specs.declared.grammar.token.Mark.TheVariants as m
use Rattle.rule_files.specs.declared.grammar.token.SortToken.{SortToken}
use Rattle.rule_files.specs.declared.grammar.token.Token.{Token}
use Rattle.rule_files.specs.declared.grammar.token.Token.TheVariants as t
use Rattle.rule_files.specs.Grammar.{Tree, Content, Number, Two, Spells, place_of, tree_of}
use Rattle.rule_files.specs.Scopes.{on_name, until_name}

-- the four words of content
pub record Four : Type 0 where
  pub a : Tree
  pub b : Tree
  pub c : Tree
  pub d : Tree

-- a statement without the places of its parts in memory, and statements one after the other
mutual
  pub data Act : Type 0 where
    Let : (place : ℕ) (x : Tree) → Act
    Set : (place : ℕ) (x : Tree) → Act
    Send : (to after : Tree) (content : Four) → Act
    If : (x : Tree) (met unmet : Acts) → Act
    Repeat : (place count : ℕ) (body : Acts) → Act
    RepeatUntil : (place count : ℕ) (x : Tree) (body : Acts) → Act
    Put : (array : Array) (index x : Tree) → Act

  pub data Acts : Type 0 where
    empty : Acts
    cons : Act → Acts → Acts

abbrev pub content_of : Sending → Four
content_of x = record { a = tree_of x.a; b = tree_of x.b; c = tree_of x.c; d = tree_of x.d }

abbrev mutual
  pub act_of : Statement → Act
  act_of (s.Let i e) = Let i (tree_of e)
  act_of (s.Set i e) = Set i (tree_of e)
  act_of (s.Send x) = Send (tree_of x.to) (tree_of x.after) (content_of x)
  act_of (s.If' e p met q unmet) = If (tree_of e) (acts_of_row met) (acts_of_row unmet)
  act_of (s.Repeat' i n p body) = Repeat i n (acts_of_row body)
  act_of (s.RepeatUntil' i n e p body) = RepeatUntil i n (tree_of e) (acts_of_row body)
  act_of (s.Put array i e) = Put array (tree_of i) (tree_of e)

  pub acts_of_row : {n : _} → Row_of-Statement n → Acts
  acts_of_row end_of-Statement = empty
  acts_of_row (more_of-Statement x rest) = cons (act_of x) (acts_of_row rest)

abbrev pub acts_of : List Statement → Acts
acts_of [] = empty
acts_of (x ∷ xs) = cons (act_of x) (acts_of xs)

-- a word of content: after its mark, where the words before it are given, or else 0
pub data SpellsContent (names : List ℕ) (d : ℕ) (mark : Mark) : (may : Bool) → Tree → (given : Bool) → List Token → Type 0 where
  not_given : (may : Bool) → SpellsContent names d mark may (Number 0) false []
  is_given : (x : Tree) (ts : List Token) → Spells names d 9 x ts → SpellsContent names d mark true x true (t.Mark mark ∷ ts)

-- what follows `send`
pub record SpellsSending (names : List ℕ) (d : ℕ) (receiver delay : Tree) (content : Four) (tokens : List Token) : Type 0 where
  pub ts : List Token
  pub us : List Token
  pub first : List Token
  pub second : List Token
  pub third : List Token
  pub fourth : List Token
  pub one : Bool
  pub two : Bool
  pub three : Bool
  pub four : Bool
  pub to : Spells names d 9 receiver ts
  pub after : Spells names d 9 delay us
  pub with_a : SpellsContent names d m.With true content.a one first
  pub with_b : SpellsContent names d m.Comma one content.b two second
  pub with_c : SpellsContent names d m.Comma two content.c three third
  pub with_d : SpellsContent names d m.Comma three content.d four fourth
  pub all : tokens ≡ t.Mark m.To ∷ (ts ++ (t.Mark m.After ∷ (us ++ (first ++ (second ++ (third ++ fourth))))))

-- whether the first word of the content is the number of a sort
abbrev pub is_of_sort : SortToken → Tree
is_of_sort sort = Two o.Same (Content 0) (Number sort.number)

-- whether `on` and a sort come first
abbrev pub is_on : List Token → Bool
is_on (t.Name name ∷ t.Sort sort ∷ rest) = eqb name on_name
is_on _ = false

-- what is spelled: statements one after the other; what stands after `if`; what stands after its first block; what stands after `on` and a
-- sort
pub data Part : Type 0 where
  Statements : (acts : Acts) → Part
  Choice : (act : Act) → Part
  Otherwise : (acts : Acts) → Part
  Case : (sort : SortToken) (act : Act) → Part

-- With these names in scope the tokens spell the part, with at most d blocks around one another, and at most n blocks, `else if` and further `on`
-- around one another. A `let` names its value for the statements after it, a `repeat` the number of the turn for its block and for the value
-- that ends it: with a name that the scope lacks, and at most 16 at once. Statements of `on` that follow each other are one chain, where each
-- stands in place of an `else` of the one before.
pub data SpellsPart : (names : List ℕ) (n d : ℕ) → Part → List Token → Type 0 where
  nothing : (names : List ℕ) (n d : ℕ) → SpellsPart names n d (Statements empty) []
  a_let : (names : List ℕ) (n d name : ℕ) (x : Tree) (acts : Acts) (ts us : List Token) → place_of name names ≡ None → length names < 16 →
      Spells names d 9 x ts → SpellsPart (names ++ name ∷ []) n d (Statements acts) us →
      SpellsPart names n d (Statements (cons (Let (length names) x) acts)) (t.Mark m.Let ∷ t.Name name ∷ t.Mark m.Is ∷ (ts ++ us))
  a_set : (names : List ℕ) (n d place : ℕ) (x : Tree) (acts : Acts) (ts us : List Token) →
      Spells names d 9 x ts → SpellsPart names n d (Statements acts) us →
      SpellsPart names n d (Statements (cons (Set place x) acts)) (t.Word place ∷ t.Mark m.Is ∷ (ts ++ us))
  a_put : (names : List ℕ) (n d : ℕ) (array : Array) (index x : Tree) (acts : Acts) (ts us vs : List Token) →
      Spells names d 9 index ts → Spells names d 9 x us → SpellsPart names n d (Statements acts) vs →
      SpellsPart names n d (Statements (cons (Put array index x) acts))
      (t.Array array ∷ t.Mark m.OpenIndex ∷ (ts ++ (t.Mark m.CloseIndex ∷ t.Mark m.Is ∷ (us ++ vs))))
  a_send : (names : List ℕ) (n d : ℕ) (to after : Tree) (content : Four) (acts : Acts) (ts us : List Token) →
      SpellsSending names d to after content ts → SpellsPart names n d (Statements acts) us →
      SpellsPart names n d (Statements (cons (Send to after content) acts)) (t.Mark m.Send ∷ (ts ++ us))
  an_if : (names : List ℕ) (n d : ℕ) (act : Act) (acts : Acts) (ts us : List Token) →
      SpellsPart names n d (Choice act) ts → SpellsPart names n d (Statements acts) us →
      SpellsPart names n d (Statements (cons act acts)) (t.Mark m.If ∷ (ts ++ us))
  an_on : (names : List ℕ) (n d : ℕ) (sort : SortToken) (act : Act) (acts : Acts) (ts us : List Token) →
      SpellsPart names n d (Case sort act) ts → is_on us ≡ false → SpellsPart names n d (Statements acts) us →
      SpellsPart names n d (Statements (cons act acts)) (t.Name on_name ∷ t.Sort sort ∷ (ts ++ us))
  a_repeat : (names : List ℕ) (n d name count : ℕ) (body acts : Acts) (ts us : List Token) → place_of name names ≡ None → length names < 16 →
      count < 2 ^ 32 → SpellsPart (names ++ name ∷ []) n d (Statements body) ts → SpellsPart names (suc n) (suc d) (Statements acts) us →
      SpellsPart names (suc n) (suc d) (Statements (cons (Repeat (length names) count body) acts))
      (t.Mark m.Repeat ∷ t.Name name ∷ t.Number count ∷ t.Mark m.OpenBlock ∷ (ts ++ (t.Mark m.CloseBlock ∷ us)))
  a_repeat_until : (names : List ℕ) (n d name count : ℕ) (x : Tree) (body acts : Acts) (ts us vs : List Token) → place_of name names ≡ None →
      length names < 16 → count < 2 ^ 32 → Spells (names ++ name ∷ []) (suc d) 9 x ts → SpellsPart (names ++ name ∷ []) n d (Statements body) us →
      SpellsPart names (suc n) (suc d) (Statements acts) vs →
      SpellsPart names (suc n) (suc d) (Statements (cons (RepeatUntil (length names) count x body) acts))
      (t.Mark m.Repeat ∷ t.Name name ∷ t.Number count ∷ t.Name until_name ∷ (ts ++ (t.Mark m.OpenBlock ∷ (us ++ (t.Mark m.CloseBlock ∷ vs)))))
  a_choice : (names : List ℕ) (n d : ℕ) (x : Tree) (met unmet : Acts) (ts us vs : List Token) →
      Spells names (suc d) 9 x ts → SpellsPart names n d (Statements met) us → SpellsPart names (suc n) (suc d) (Otherwise unmet) vs →
      SpellsPart names (suc n) (suc d) (Choice (If x met unmet)) (ts ++ (t.Mark m.OpenBlock ∷ (us ++ (t.Mark m.CloseBlock ∷ vs))))
  no_else : (names : List ℕ) (n d : ℕ) → SpellsPart names n d (Otherwise empty) []
  an_else : (names : List ℕ) (n d : ℕ) (acts : Acts) (us : List Token) → SpellsPart names n d (Statements acts) us →
      SpellsPart names (suc n) (suc d) (Otherwise acts) (t.Mark m.Else ∷ t.Mark m.OpenBlock ∷ (us ++ (t.Mark m.CloseBlock ∷ [])))
  an_else_if : (names : List ℕ) (n d : ℕ) (act : Act) (us : List Token) → SpellsPart names n d (Choice act) us →
      SpellsPart names (suc n) d (Otherwise (cons act empty)) (t.Mark m.Else ∷ t.Mark m.If ∷ us)
  a_case : (names : List ℕ) (n d : ℕ) (sort : SortToken) (met : Acts) (us : List Token) → SpellsPart names n d (Statements met) us →
      SpellsPart names (suc n) (suc d) (Case sort (If (is_of_sort sort) met empty)) (t.Mark m.OpenBlock ∷ (us ++ (t.Mark m.CloseBlock ∷ [])))
  a_further_case : (names : List ℕ) (n d : ℕ) (sort other : SortToken) (met : Acts) (act : Act) (us vs : List Token) →
      SpellsPart names n d (Statements met) us → SpellsPart names n (suc d) (Case other act) vs →
      SpellsPart names (suc n) (suc d) (Case sort (If (is_of_sort sort) met (cons act empty)))
      (t.Mark m.OpenBlock ∷ (us ++ (t.Mark m.CloseBlock ∷ t.Name on_name ∷ t.Sort other ∷ vs)))

-- the tokens of a rule spell these statements: blocks are at most 64 deep
abbrev pub SpellsRule : Acts → List Token → Type 0
SpellsRule acts tokens = SpellsPart [] 1024 64 (Statements acts) tokens
