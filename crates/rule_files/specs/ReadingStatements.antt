-- The reader of statements: one pass from the left.
use Rattle.std.specs.Prelude.{ℕ, zero, suc, ◌^◌, List, [], ◌∷◌, ◌++◌, Option, Some, None, Bool, true, false, eqb, length, nat_lt, if◌then◌else◌}
use Rattle.rules.specs.declared.arrays.Array.{Array}
use Rattle.rule_files.specs.declared.grammar.token.Mark.{Mark}
use Rattle.rule_files.specs.declared.grammar.token.Mark.TheVariants as m
use Rattle.rule_files.specs.declared.grammar.token.SortToken.{SortToken}
use Rattle.rule_files.specs.declared.grammar.token.Token.{Token}
use Rattle.rule_files.specs.declared.grammar.token.Token.TheVariants as t
use Rattle.rule_files.specs.Grammar.{Tree, Number, place_of}
use Rattle.rule_files.specs.ReadingValues.{◌>>=◌, behind, value_at}
use Rattle.rule_files.specs.Scopes.{on_name, until_name}
use Rattle.rule_files.specs.Statements.{Act, Acts, Four, empty, cons, is_of_sort, is_on, Let, Set, Send, If, Repeat, RepeatUntil, Put}

-- with names in scope: what is read, and the tokens after it
abbrev pub Reads : Type 0 → Type 0
Reads A = List ℕ → List Token → Option (A × List Token)

-- a statement, and the name that it gives to what follows
abbrev pub Done : Type 0
Done = Act × Option ℕ

abbrev pub with_name : List ℕ → Option ℕ → List ℕ
with_name names None = names
with_name names (Some name) = names ++ name ∷ []

-- a name that is not in use, where there is room for one more
abbrev pub room : Option ℕ → ℕ → List ℕ → List Token → Option (ℕ × List Token)
room None name names rest = if nat_lt (length names) 16 then Some (name, rest) else None
room (Some i) name names rest = None

abbrev pub new_name : Reads ℕ
new_name names (t.Name name ∷ rest) = room (place_of name names) name names rest
new_name names _ = None

abbrev pub naming : ℕ → Reads Done
naming d names ts =
    new_name names ts >>= λ p. behind m.Is p.1 >>= λ us. value_at names d us >>= λ q. Some ((Let (length names) q.0, Some p.0), q.1)

abbrev pub assignment : ℕ → ℕ → Reads Done
assignment d place names ts = behind m.Is ts >>= λ us. value_at names d us >>= λ q. Some ((Set place q.0, None), q.1)

-- an element, after its array
abbrev pub placing : ℕ → Array → Reads Done
placing d array names ts =
    behind m.OpenIndex ts >>= λ us. value_at names d us >>= λ p. behind m.CloseIndex p.1 >>= λ vs. behind m.Is vs >>= λ ws.
    value_at names d ws >>= λ q. Some ((Put array p.0 q.0, None), q.1)

-- a word of content, and whether it is given
abbrev pub given_at : Option (List Token) → ℕ → List ℕ → List Token → Option ((Tree × Bool) × List Token)
given_at None d names ts = Some ((Number 0, false), ts)
given_at (Some rest) d names ts = value_at names d rest >>= λ p. Some ((p.0, true), p.1)

abbrev pub content : ℕ → Mark → Bool → Reads (Tree × Bool)
content d mark false names ts = Some ((Number 0, false), ts)
content d mark true names ts = given_at (behind mark ts) d names ts

abbrev pub contents : ℕ → Reads Four
contents d names ts =
    content d m.With true names ts >>= λ a. content d m.Comma a.0.1 names a.1 >>= λ b. content d m.Comma b.0.1 names b.1 >>= λ c.
    content d m.Comma c.0.1 names c.1 >>= λ e. Some (record { a = a.0.0; b = b.0.0; c = c.0.0; d = e.0.0 }, e.1)

abbrev pub sending : ℕ → Reads Done
sending d names ts =
    behind m.To ts >>= λ us. value_at names d us >>= λ to. behind m.After to.1 >>= λ vs. value_at names d vs >>= λ after.
    contents d names after.1 >>= λ c. Some ((Send to.0 after.0 c.0, None), c.1)

-- an `else` and its block, which may be one `if` more
abbrev pub else_if : Option (List Token) → Reads (Acts) → Reads Act → Reads (Acts)
else_if None block choice names rest = block names rest
else_if (Some more) block choice names rest = choice names more >>= λ p. Some (cons p.0 empty, p.1)

abbrev pub else_at : Option (List Token) → Reads (Acts) → Reads Act → Reads (Acts)
else_at None block choice names ts = Some (empty, ts)
else_at (Some rest) block choice names ts = else_if (behind m.If rest) block choice names rest

abbrev pub otherwise : Reads (Acts) → Reads Act → Reads (Acts)
otherwise block choice names ts = else_at (behind m.Else ts) block choice names ts

abbrev pub choice_with : ℕ → Reads (Acts) → Reads Act → Reads Act
choice_with d block choice names ts =
    value_at names d ts >>= λ x. block names x.1 >>= λ met. otherwise block choice names met.1 >>= λ unmet. Some (If x.0 met.0 unmet.0, unmet.1)

abbrev pub count_at : List Token → Option (ℕ × List Token)
count_at (t.Number n ∷ rest) = if nat_lt n (2 ^ 32) then Some (n, rest) else None
count_at _ = None

-- the value that ends a repeat, after `until`
abbrev pub until_at : List Token → Option (List Token)
until_at (t.Name name ∷ rest) = if eqb name until_name then Some rest else None
until_at _ = None

-- what stands after the count, with the name of the turn in scope
abbrev pub repeated : Option (List Token) → ℕ → Reads (Acts) → (place count : ℕ) → Reads Done
repeated None d block place count names ts = block names ts >>= λ body. Some ((Repeat place count body.0, None), body.1)
repeated (Some us) d block place count names ts =
    value_at names d us >>= λ x. block names x.1 >>= λ body. Some ((RepeatUntil place count x.0 body.0, None), body.1)

abbrev pub repetition : ℕ → Reads (Acts) → Reads Done
repetition d block names ts =
    new_name names ts >>= λ p. count_at p.1 >>= λ n. repeated (until_at n.1) d block (length names) n.0 (names ++ p.0 ∷ []) n.1

-- the sort after `on`, where they come first
abbrev pub sort_at : List Token → Option (SortToken × List Token)
sort_at (t.Name name ∷ t.Sort sort ∷ rest) = if eqb name on_name then Some (sort, rest) else None
sort_at _ = None

-- a further `on`
abbrev pub further : Option (SortToken × List Token) → (SortToken → Reads Act) → Reads (Acts)
further None next names ts = Some (empty, ts)
further (Some p) next names ts = next p.0 names p.1 >>= λ q. Some (cons q.0 empty, q.1)

-- what stands after `on` and a sort
abbrev pub case_with : Reads (Acts) → (SortToken → Reads Act) → SortToken → Reads Act
case_with block next sort names ts =
    block names ts >>= λ met. further (sort_at met.1) next names met.1 >>= λ unmet. Some (If (is_of_sort sort) met.0 unmet.0, unmet.1)

abbrev pub starts : Mark → Bool
starts m.Let = true
starts m.Send = true
starts m.If = true
starts m.Repeat = true
starts _ = false

-- whether a statement begins here
abbrev pub begins : List Token → Bool
begins (t.Mark mark ∷ rest) = starts mark
begins (t.Word place ∷ rest) = true
begins (t.Array array ∷ rest) = true
begins (t.Name name ∷ rest) = is_on (t.Name name ∷ rest)
begins _ = false

abbrev pub unnamed : Option (Act × List Token) → Option (Done × List Token)
unnamed read = read >>= λ p. Some ((p.0, None), p.1)

abbrev pub by_start : Mark → ℕ → Reads (Acts) → Reads Act → Reads Done
by_start m.Let d block choice names ts = naming d names ts
by_start m.Send d block choice names ts = sending d names ts
by_start m.If d block choice names ts = unnamed (choice_with d block choice names ts)
by_start m.Repeat d block choice names ts = repetition d block names ts
by_start _ d block choice names ts = None

-- a chain of `on`
abbrev pub cases : Reads (Acts) → (SortToken → Reads Act) → Reads Done
cases block next names ts = sort_at ts >>= λ p. unnamed (case_with block next p.0 names p.1)

abbrev pub one : ℕ → Reads (Acts) → Reads Act → (SortToken → Reads Act) → Reads Done
one d block choice next names (t.Mark mark ∷ rest) = by_start mark d block choice names rest
one d block choice next names (t.Word place ∷ rest) = assignment d place names rest
one d block choice next names (t.Array array ∷ rest) = placing d array names rest
one d block choice next names (t.Name name ∷ rest) = cases block next names (t.Name name ∷ rest)
one d block choice next names _ = None

-- at most n statements, one after the other
abbrev pub row : Reads Done → ℕ → Reads (Acts)
row first zero names ts = Some (empty, ts)
row first (suc n) names ts =
    if begins ts then (first names ts >>= λ p. row first n (with_name names p.0.1) p.1 >>= λ q. Some (cons p.0.0 q.0, q.1)) else Some (empty, ts)

-- what is read in braces
abbrev pub in_braces : Reads (Acts) → Reads (Acts)
in_braces inner names ts = behind m.OpenBlock ts >>= λ us. inner names us >>= λ p. behind m.CloseBlock p.1 >>= λ rest. Some (p.0, rest)

abbrev mutual
  -- a block, where d blocks are left, and n blocks, `else if` and further `on`
  pub block_at : (n d : ℕ) → Reads (Acts)
  block_at zero d names ts = None
  block_at (suc n) zero names ts = None
  block_at (suc n) (suc d) names ts =
      in_braces (λ inner us. row (one d (block_at n d) (choice_at n d) (case_at n d)) (length us) inner us) names ts

  -- what follows `else if`
  pub choice_at : (n d : ℕ) → Reads Act
  choice_at zero d names ts = None
  choice_at (suc n) d names ts = choice_with d (block_at n d) (choice_at n d) names ts

  -- what stands after a further `on` and its sort
  pub case_at : (n d : ℕ) (sort : SortToken) → Reads Act
  case_at zero d sort names ts = None
  case_at (suc n) d sort names ts = case_with (block_at n d) (case_at n d) sort names ts

-- a statement
abbrev pub first_at : (n d : ℕ) → Reads Done
first_at n d = one d (block_at n d) (choice_at n d) (case_at n d)

abbrev pub statements_at : (n d : ℕ) → Reads (Acts)
statements_at n d names ts = row (first_at n d) (length ts) names ts

abbrev pub all_of : Acts → List Token → Option (Acts)
all_of acts [] = Some acts
all_of acts (token ∷ ts) = None

-- the statements of a whole rule
unfoldable pub rule_at : List Token → Option (Acts)
rule_at ts = statements_at 1024 64 [] ts >>= λ p. all_of p.0 p.1
