-- Statements that the tokens form are read.
use Rattle.std.proofs.Common.{◌≡◌, ◌≤◌, ◌<◌, ℕ, zero, suc, ◌-◌, ◌^◌, List, [], ◌∷◌, ◌++◌, Option, Some, None, Bool, true, false, ltb, length, refl, sym, ap, ◌∙◌, subst, arith, append_assoc, append-nil, length-append, if◌then◌else◌}
use Rattle.std.proofs.lemmas.Bool.Decides.{nat_tests}
use Rattle.rule_files.specs.declared.grammar.token.Mark.{Mark}
use Rattle.rule_files.specs.declared.grammar.token.Mark.TheVariants as m
use Rattle.rule_files.specs.declared.grammar.token.SortToken.{SortToken}
use Rattle.rule_files.specs.declared.grammar.token.Token.{Token}
use Rattle.rule_files.specs.declared.grammar.token.Token.TheVariants as t
use Rattle.rule_files.specs.Grammar.{Tree, Spells, place_of}
use Rattle.rule_files.specs.ReadingValues.{◌>>=◌, behind, value_at}
use Rattle.rule_files.specs.ReadingStatements.{Done, Reads, all_of, begins, block_at, case_at, case_with, choice_at, choice_with, content, contents, count_at, else_at, first_at, further, given_at, new_name, otherwise, repeated, room, row, rule_at, sending, sort_at, unnamed, until_at, with_name}
use Rattle.rule_files.specs.Scopes.{on_name, until_name}
use Rattle.rule_files.specs.Statements.{Act, Acts, Four, Let, Set, Send, If, Repeat, RepeatUntil, Put, cons, empty, is_of_sort, is_on, Part, Statements, Choice, Otherwise, Case, SpellsContent, not_given, is_given, SpellsSending, SpellsPart, nothing, a_let, a_set, a_put, a_send, an_if, an_on, a_repeat, a_repeat_until, a_choice, no_else, an_else, an_else_if, a_case, a_further_case, SpellsRule}
use Rattle.rule_files.proofs.Complete.{Heads, value_is}
use Rattle.rule_files.proofs.Marks.{behind_is}
use Rattle.rule_files.proofs.Turns.{row_stops}

-- what follows goes on with nothing before it
record Quiet (rest : List Token) : Type 0 where
  no_sign : Heads 10 rest
  no_else : behind m.Else rest ≡ None
  no_with : behind m.With rest ≡ None
  no_comma : behind m.Comma rest ≡ None

-- no statement follows either
record IsEnd (rest : List Token) : Type 0 where
  quiet : Quiet rest
  no_on : is_on rest ≡ false
  ends : begins rest ≡ false

end_of_block : (rest : List Token) → IsEnd (t.Mark m.CloseBlock ∷ rest)
end_of_block rest = record { quiet = record { no_sign = tt; no_else = refl; no_with = refl; no_comma = refl }; no_on = refl; ends = refl }

end_of_rule : IsEnd []
end_of_rule = record { quiet = record { no_sign = tt; no_else = refl; no_with = refl; no_comma = refl }; no_on = refl; ends = refl }

abbrev IsStatements : Part → Type 0
IsStatements (Statements acts) = Unit {0}
IsStatements _ = ⊥

quiet_before : (names : List ℕ) (n d : ℕ) (part : Part) (ts : List Token) → SpellsPart names n d part ts → IsStatements part → (rest : List Token) → IsEnd rest → Quiet (ts ++ rest)
quiet_before _ _ _ _ _ (nothing names n d) h rest end = end.quiet
quiet_before _ _ _ _ _ (a_let names n d name x acts ts us fresh few value more) h rest end = record { no_sign = tt; no_else = refl; no_with = refl; no_comma = refl }
quiet_before _ _ _ _ _ (a_set names n d place x acts ts us value more) h rest end = record { no_sign = tt; no_else = refl; no_with = refl; no_comma = refl }
quiet_before _ _ _ _ _ (a_put names n d array index x acts ts us vs place value more) h rest end = record { no_sign = tt; no_else = refl; no_with = refl; no_comma = refl }
quiet_before _ _ _ _ _ (a_send names n d to after content acts ts us sent more) h rest end = record { no_sign = tt; no_else = refl; no_with = refl; no_comma = refl }
quiet_before _ _ _ _ _ (an_if names n d act acts ts us chosen more) h rest end = record { no_sign = tt; no_else = refl; no_with = refl; no_comma = refl }
quiet_before _ _ _ _ _ (an_on names n d sort act acts ts us chosen other more) h rest end = record { no_sign = tt; no_else = refl; no_with = refl; no_comma = refl }
quiet_before _ _ _ _ _ (a_repeat names n d name count body acts ts us fresh few small inner more) h rest end = record { no_sign = tt; no_else = refl; no_with = refl; no_comma = refl }
quiet_before _ _ _ _ _ (a_repeat_until names n d name count x body acts ts us vs fresh few small value inner more) h rest end = record { no_sign = tt; no_else = refl; no_with = refl; no_comma = refl }
quiet_before _ _ _ _ _ (a_choice names n d x met unmet ts us vs value one two) h rest end = absurd h
quiet_before _ _ _ _ _ (no_else names n d) h rest end = absurd h
quiet_before _ _ _ _ _ (an_else names n d acts us inner) h rest end = absurd h
quiet_before _ _ _ _ _ (an_else_if names n d act us inner) h rest end = absurd h
quiet_before _ _ _ _ _ (a_case names n d sort met us one) h rest end = absurd h
quiet_before _ _ _ _ _ (a_further_case names n d sort other met act us vs one two) h rest end = absurd h

-- nor does a chain of `on` go on
not_on : (names : List ℕ) (n d : ℕ) (part : Part) (ts : List Token) → SpellsPart names n d part ts → IsStatements part → is_on ts ≡ false → (rest : List Token) → IsEnd rest →
    is_on (ts ++ rest) ≡ false
not_on _ _ _ _ _ (nothing names n d) h other rest end = end.no_on
not_on _ _ _ _ _ (a_let names n d name x acts ts us fresh few value more) h other rest end = refl
not_on _ _ _ _ _ (a_set names n d place x acts ts us value more) h other rest end = refl
not_on _ _ _ _ _ (a_put names n d array index x acts ts us vs place value more) h other rest end = refl
not_on _ _ _ _ _ (a_send names n d to after content acts ts us sent more) h other rest end = refl
not_on _ _ _ _ _ (an_if names n d act acts ts us chosen more) h other rest end = refl
not_on _ _ _ _ _ (an_on names n d sort act acts ts us chosen apart more) h other rest end = absurd cc
not_on _ _ _ _ _ (a_repeat names n d name count body acts ts us fresh few small inner more) h other rest end = refl
not_on _ _ _ _ _ (a_repeat_until names n d name count x body acts ts us vs fresh few small value inner more) h other rest end = refl
not_on _ _ _ _ _ (a_choice names n d x met unmet ts us vs value one two) h other rest end = absurd h
not_on _ _ _ _ _ (no_else names n d) h other rest end = absurd h
not_on _ _ _ _ _ (an_else names n d acts us inner) h other rest end = absurd h
not_on _ _ _ _ _ (an_else_if names n d act us inner) h other rest end = absurd h
not_on _ _ _ _ _ (a_case names n d sort met us one) h other rest end = absurd h
not_on _ _ _ _ _ (a_further_case names n d sort next met act us vs one two) h other rest end = absurd h

sort_none : (ts : List Token) → is_on ts ≡ false → sort_at ts ≡ None
sort_none [] e = refl
sort_none (t.Number n ∷ ts) e = refl
sort_none (t.Sign n ∷ ts) e = refl
sort_none (t.Mark n ∷ ts) e = refl
sort_none (t.Known n ∷ ts) e = refl
sort_none (t.Word n ∷ ts) e = refl
sort_none (t.Content n ∷ ts) e = refl
sort_none (t.Table n ∷ ts) e = refl
sort_none (t.Array n ∷ ts) e = refl
sort_none (t.Kind n c ∷ ts) e = refl
sort_none (t.Own n ∷ ts) e = refl
sort_none (t.Sort n ∷ ts) e = refl
sort_none (t.Name name ∷ []) e = refl
sort_none (t.Name name ∷ t.Number n ∷ ts) e = refl
sort_none (t.Name name ∷ t.Sign n ∷ ts) e = refl
sort_none (t.Name name ∷ t.Mark n ∷ ts) e = refl
sort_none (t.Name name ∷ t.Known n ∷ ts) e = refl
sort_none (t.Name name ∷ t.Word n ∷ ts) e = refl
sort_none (t.Name name ∷ t.Content n ∷ ts) e = refl
sort_none (t.Name name ∷ t.Table n ∷ ts) e = refl
sort_none (t.Name name ∷ t.Array n ∷ ts) e = refl
sort_none (t.Name name ∷ t.Kind n c ∷ ts) e = refl
sort_none (t.Name name ∷ t.Own n ∷ ts) e = refl
sort_none (t.Name name ∷ t.Name n ∷ ts) e = refl
sort_none (t.Name name ∷ t.Sort n ∷ ts) e = ap (λ b. if b then Some (n, ts) else None) e

value_step : (names : List ℕ) (d : ℕ) (x : Tree) (ts us rest : List Token) → Spells names d 9 x ts → Heads 10 (us ++ rest) →
    value_at names d ((ts ++ us) ++ rest) ≡ Some (x, us ++ rest)
value_step names d x ts us rest value h = ap (value_at names d) (append_assoc ts us rest) ∙ value_is names d x ts (us ++ rest) value h

module _ (names : List ℕ) (d : ℕ) where
  content_is : (mark : Mark) (may given : Bool) (x : Tree) (ts : List Token) → SpellsContent names d mark may x given ts → (rest : List Token) →
      (given ≡ false → behind mark rest ≡ None) → Heads 10 rest → content d mark may names (ts ++ rest) ≡ Some ((x, given), rest)
  content_is mark _ _ _ _ (not_given false) rest none h = refl
  content_is mark _ _ _ _ (not_given true) rest none h = ap (λ o. given_at o d names rest) (none refl)
  content_is mark _ _ _ _ (is_given x ts value) rest none h =
      ap (λ o. given_at o d names (t.Mark mark ∷ (ts ++ rest))) (behind_is mark (ts ++ rest))
      ∙ ap (λ r. r >>= λ p. Some ((p.0, true), p.1)) (value_is names d x ts rest value h)

  content_heads : (mark : Mark) (may given : Bool) (x : Tree) (ts : List Token) → SpellsContent names d mark may x given ts → (rest : List Token) → Heads 10 rest → Heads 10 (ts ++ rest)
  content_heads mark _ _ _ _ (not_given may) rest h = h
  content_heads mark _ _ _ _ (is_given x ts value) rest h = tt

  not_may : (mark : Mark) (may given : Bool) (x : Tree) (ts : List Token) → SpellsContent names d mark may x given ts → may ≡ false → (ts ≡ []) × (given ≡ false)
  not_may mark _ _ _ _ (not_given may) h = (refl, refl)
  not_may mark _ _ _ _ (is_given x ts value) h = absurd cc

  -- after a word of content that is not given no other is
  pass : (next mark : Mark) (may given : Bool) (x : Tree) (ts : List Token) → SpellsContent names d mark may x given ts → (rest : List Token) → may ≡ false →
      (given ≡ false → behind next rest ≡ None) → behind next (ts ++ rest) ≡ None
  pass next mark may given x ts c rest h none = let e = not_may mark may given x ts c h in ap (λ us. behind next (us ++ rest)) e.0 ∙ none e.1

  module _ (to after : Tree) (four : Four) (tokens : List Token) (s : SpellsSending names d to after four tokens) (rest : List Token) (quiet : Quiet rest) where
    -- what follows each word of content
    abbrev rest3 : List Token
    rest3 = s.fourth ++ rest

    abbrev rest2 : List Token
    rest2 = s.third ++ rest3

    abbrev rest1 : List Token
    rest1 = s.second ++ rest2

    abbrev given : List Token
    given = s.first ++ (s.second ++ (s.third ++ s.fourth))

    regroup : given ++ rest ≡ s.first ++ rest1
    regroup =
        append_assoc s.first (s.second ++ (s.third ++ s.fourth)) rest
        ∙ ap (λ us. s.first ++ us) (append_assoc s.second (s.third ++ s.fourth) rest ∙ ap (λ us. s.second ++ us) (append_assoc s.third s.fourth rest))

    heads3 : Heads 10 rest3
    heads3 = content_heads m.Comma s.three s.four four.d s.fourth s.with_d rest quiet.no_sign

    heads2 : Heads 10 rest2
    heads2 = content_heads m.Comma s.two s.three four.c s.third s.with_c rest3 heads3

    heads1 : Heads 10 rest1
    heads1 = content_heads m.Comma s.one s.two four.b s.second s.with_b rest2 heads2

    none3 : (next : Mark) → behind next rest ≡ None → s.three ≡ false → behind next rest3 ≡ None
    none3 next none h = pass next m.Comma s.three s.four four.d s.fourth s.with_d rest h (λ _. none)

    none2 : (next : Mark) → behind next rest ≡ None → s.two ≡ false → behind next rest2 ≡ None
    none2 next none h = pass next m.Comma s.two s.three four.c s.third s.with_c rest3 h (none3 next none)

    none1 : (next : Mark) → behind next rest ≡ None → s.one ≡ false → behind next rest1 ≡ None
    none1 next none h = pass next m.Comma s.one s.two four.b s.second s.with_b rest2 h (none2 next none)

    contents_are : contents d names (given ++ rest) ≡ Some (four, rest)
    contents_are =
        ap (contents d names) regroup
        ∙ ap (λ r. r >>= λ a. content d m.Comma a.0.1 names a.1 >>= λ b. content d m.Comma b.0.1 names b.1 >>= λ c.
        content d m.Comma c.0.1 names c.1 >>= λ e. Some (record { a = a.0.0; b = b.0.0; c = c.0.0; d = e.0.0 }, e.1))
        (content_is m.With true s.one four.a s.first s.with_a rest1 (none1 m.With quiet.no_with) heads1)
        ∙ ap (λ r. r >>= λ b. content d m.Comma b.0.1 names b.1 >>= λ c.
        content d m.Comma c.0.1 names c.1 >>= λ e. Some (record { a = four.a; b = b.0.0; c = c.0.0; d = e.0.0 }, e.1))
        (content_is m.Comma s.one s.two four.b s.second s.with_b rest2 (none2 m.Comma quiet.no_comma) heads2)
        ∙ ap (λ r. r >>= λ c. content d m.Comma c.0.1 names c.1 >>= λ e. Some (record { a = four.a; b = four.b; c = c.0.0; d = e.0.0 }, e.1))
        (content_is m.Comma s.two s.three four.c s.third s.with_c rest3 (none3 m.Comma quiet.no_comma) heads3)
        ∙ ap (λ r. r >>= λ e. Some (record { a = four.a; b = four.b; c = four.c; d = e.0.0 }, e.1))
        (content_is m.Comma s.three s.four four.d s.fourth s.with_d rest (λ _. quiet.no_comma) quiet.no_sign)

    sending_is : sending d names (tokens ++ rest) ≡ Some ((Send to after four, None), rest)
    sending_is =
        ap (λ us. sending d names (us ++ rest)) s.all
        ∙ ap (λ r. r >>= λ x. behind m.After x.1 >>= λ vs. value_at names d vs >>= λ y. contents d names y.1 >>= λ c. Some ((Send x.0 y.0 c.0, None), c.1))
        (value_step names d to s.ts (t.Mark m.After ∷ (s.us ++ given)) rest s.to tt)
        ∙ ap (λ r. r >>= λ y. contents d names y.1 >>= λ c. Some ((Send to y.0 c.0, None), c.1))
        (value_step names d after s.us given rest s.after
        (subst (Heads 10) (sym regroup) (content_heads m.With true s.one four.a s.first s.with_a rest1 heads1)))
        ∙ ap (λ r. r >>= λ c. Some ((Send to after c.0, None), c.1)) contents_are

below : (a b : ℕ) → a < b → ltb a b ≡ true
below a b h = grind (arith, nat_tests)

new_is : (names : List ℕ) (name : ℕ) (rest : List Token) → place_of name names ≡ None → length names < 16 → new_name names (t.Name name ∷ rest) ≡ Some (name, rest)
new_is names name rest fresh few =
    ap (λ o. room o name names rest) fresh ∙ ap (λ b. if b then Some (name, rest) else None) (below (length names) 16 few)

count_is : (n : ℕ) (rest : List Token) → n < 2 ^ 32 → count_at (t.Number n ∷ rest) ≡ Some (n, rest)
count_is n rest small = ap (λ b. if b then Some (n, rest) else None) (below n (2 ^ 32) small)

row_takes : (first : Reads Done) (n : ℕ) (names : List ℕ) (ts rest end : List Token) (act : Act) (name : Option ℕ) (acts : Acts) → 1 ≤ n → begins ts ≡ true →
    first names ts ≡ Some ((act, name), rest) → row first (n - 1) (with_name names name) rest ≡ Some (acts, end) → row first n names ts ≡ Some (cons act acts, end)
row_takes first zero names ts rest end act name acts some start read more = absurd (omega arith)
row_takes first (suc n) names ts rest end act name acts some start read more =
    let less : n ≡ suc n - 1 = omega arith in
    ap (λ b. if b then (first names ts >>= λ p. row first n (with_name names p.0.1) p.1 >>= λ q. Some (cons p.0.0 q.0, q.1)) else Some (empty, ts)) start
    ∙ ap (λ r. r >>= λ p. row first n (with_name names p.0.1) p.1 >>= λ q. Some (cons p.0.0 q.0, q.1)) read
    ∙ ap (λ r. r >>= λ q. Some (cons act q.0, q.1)) (ap (λ k. row first k (with_name names name) rest) less ∙ more)

-- a chain of `on` needs that none follows
abbrev Follows : Part → List Token → Type 0
Follows (Statements acts) rest = IsEnd rest
Follows (Case sort act) rest = is_on rest ≡ false
Follows _ rest = Quiet rest

abbrev IsRead : List ℕ → ℕ → ℕ → Part → List Token → List Token → Type 0
IsRead names n d (Statements acts) ts rest = (j : ℕ) → length ts ≤ j → row (first_at n d) j names (ts ++ rest) ≡ Some (acts, rest)
IsRead names n d (Choice act) ts rest = choice_with d (block_at n d) (choice_at n d) names (ts ++ rest) ≡ Some (act, rest)
IsRead names n d (Otherwise acts) ts rest = otherwise (block_at n d) (choice_at n d) names (ts ++ rest) ≡ Some (acts, rest)
IsRead names n d (Case sort act) ts rest = case_with (block_at n d) (case_at n d) sort names (ts ++ rest) ≡ Some (act, rest)

-- a block, by its statements
block_is : (names : List ℕ) (n d : ℕ) (acts : Acts) (us vs rest : List Token) → IsRead names n d (Statements acts) us (t.Mark m.CloseBlock ∷ (vs ++ rest)) →
    block_at (suc n) (suc d) names (t.Mark m.OpenBlock ∷ ((us ++ (t.Mark m.CloseBlock ∷ vs)) ++ rest)) ≡ Some (acts, vs ++ rest)
block_is names n d acts us vs rest here =
    let all = us ++ (t.Mark m.CloseBlock ∷ (vs ++ rest)) in
    ap (λ ts. block_at (suc n) (suc d) names (t.Mark m.OpenBlock ∷ ts)) (append_assoc us (t.Mark m.CloseBlock ∷ vs) rest)
    ∙ ap (λ r. r >>= λ p. behind m.CloseBlock p.1 >>= λ after. Some (p.0, after)) (here (length all) (omega (arith, length-append us (t.Mark m.CloseBlock ∷ (vs ++ rest)))))

-- the choice of an `on` whose further one is read
abbrev with_further : SortToken → Acts → Option (Act × List Token) → Option (Act × List Token)
with_further sort met read =
    let unmet : Option (Acts × List Token) = read >>= λ q. Some (cons q.0 empty, q.1) in
    unmet >>= λ o. Some (If (is_of_sort sort) met o.0, o.1)

complete : (names : List ℕ) (n d : ℕ) (part : Part) (ts : List Token) → SpellsPart names n d part ts → (rest : List Token) → Follows part rest → IsRead names n d part ts rest
complete _ _ _ _ _ (nothing names n d) rest end = λ j fits. row_stops (first_at n d) j names rest end.ends
complete _ _ _ _ _ (a_let names n d name x acts ts us fresh few value more) rest end = λ j fits.
    let quiet = quiet_before (names ++ name ∷ []) n d (Statements acts) us more tt rest end in
    row_takes (first_at n d) j names _ (us ++ rest) rest (Let (length names) x) (Some name) acts (omega arith) refl
    (ap (λ r. r >>= λ p. behind m.Is p.1 >>= λ vs. value_at names d vs >>= λ q. Some ((Let (length names) q.0, Some p.0), q.1))
    (new_is names name (t.Mark m.Is ∷ ((ts ++ us) ++ rest)) fresh few)
    ∙ ap (λ r. r >>= λ q. Some ((Let (length names) q.0, Some name), q.1)) (value_step names d x ts us rest value quiet.no_sign))
    (complete (names ++ name ∷ []) n d (Statements acts) us more rest end (j - 1) (omega (arith, length-append ts us)))
complete _ _ _ _ _ (a_set names n d place x acts ts us value more) rest end = λ j fits.
    let quiet = quiet_before names n d (Statements acts) us more tt rest end in
    row_takes (first_at n d) j names _ (us ++ rest) rest (Set place x) None acts (omega arith) refl
    (ap (λ r. r >>= λ q. Some ((Set place q.0, None), q.1)) (value_step names d x ts us rest value quiet.no_sign))
    (complete names n d (Statements acts) us more rest end (j - 1) (omega (arith, length-append ts us)))
complete _ _ _ _ _ (a_put names n d array index x acts ts us vs place value more) rest end = λ j fits.
    let quiet = quiet_before names n d (Statements acts) vs more tt rest end in
    let behind_index = t.Mark m.CloseIndex ∷ t.Mark m.Is ∷ (us ++ vs) in
    row_takes (first_at n d) j names _ (vs ++ rest) rest (Put array index x) None acts (omega arith) refl
    (ap (λ r. r >>= λ p. behind m.CloseIndex p.1 >>= λ qs. behind m.Is qs >>= λ ws. value_at names d ws >>= λ q. Some ((Put array p.0 q.0, None), q.1))
    (value_step names d index ts behind_index rest place tt)
    ∙ ap (λ r. r >>= λ q. Some ((Put array index q.0, None), q.1)) (value_step names d x us vs rest value quiet.no_sign))
    (complete names n d (Statements acts) vs more rest end (j - 1)
    (omega (arith, length-append ts behind_index, length-append us vs)))
complete _ _ _ _ _ (a_send names n d to after four acts ts us sent more) rest end = λ j fits.
    let quiet = quiet_before names n d (Statements acts) us more tt rest end in
    row_takes (first_at n d) j names _ (us ++ rest) rest (Send to after four) None acts (omega arith) refl
    (ap (sending d names) (append_assoc ts us rest) ∙ sending_is names d to after four ts sent (us ++ rest) quiet)
    (complete names n d (Statements acts) us more rest end (j - 1) (omega (arith, length-append ts us)))
complete _ _ _ _ _ (an_if names n d act acts ts us chosen more) rest end = λ j fits.
    let quiet = quiet_before names n d (Statements acts) us more tt rest end in
    row_takes (first_at n d) j names _ (us ++ rest) rest act None acts (omega arith) refl
    (ap (λ vs. unnamed (choice_with d (block_at n d) (choice_at n d) names vs)) (append_assoc ts us rest)
    ∙ ap unnamed (complete names n d (Choice act) ts chosen (us ++ rest) quiet))
    (complete names n d (Statements acts) us more rest end (j - 1) (omega (arith, length-append ts us)))
complete _ _ _ _ _ (an_on names n d sort act acts ts us chosen other more) rest end = λ j fits.
    row_takes (first_at n d) j names _ (us ++ rest) rest act None acts (omega arith) refl
    (ap (λ vs. unnamed (case_with (block_at n d) (case_at n d) sort names vs)) (append_assoc ts us rest)
    ∙ ap unnamed (complete names n d (Case sort act) ts chosen (us ++ rest) (not_on names n d (Statements acts) us more tt other rest end)))
    (complete names n d (Statements acts) us more rest end (j - 1) (omega (arith, length-append ts us)))
complete _ _ _ _ _ (a_repeat names n d name count body acts ts us fresh few small inner more) rest end = λ j fits.
    let left = t.Mark m.OpenBlock ∷ ((ts ++ (t.Mark m.CloseBlock ∷ us)) ++ rest) in
    let block = block_at (suc n) (suc d) in
    row_takes (first_at (suc n) (suc d)) j names _ (us ++ rest) rest (Repeat (length names) count body) None acts (omega arith) refl
    (ap (λ r. r >>= λ p. count_at p.1 >>= λ k. repeated (until_at k.1) (suc d) block (length names) k.0 (names ++ p.0 ∷ []) k.1) (new_is names name (t.Number count ∷ left) fresh few)
    ∙ ap (λ r. r >>= λ k. repeated (until_at k.1) (suc d) block (length names) k.0 (names ++ name ∷ []) k.1) (count_is count left small)
    ∙ ap (λ r. r >>= λ q. Some ((Repeat (length names) count q.0, None), q.1))
    (block_is (names ++ name ∷ []) n d body ts us rest
    (complete (names ++ name ∷ []) n d (Statements body) ts inner (t.Mark m.CloseBlock ∷ (us ++ rest)) (end_of_block (us ++ rest)))))
    (complete names (suc n) (suc d) (Statements acts) us more rest end (j - 1) (omega (arith, length-append ts (t.Mark m.CloseBlock ∷ us))))
complete _ _ _ _ _ (a_repeat_until names n d name count x body acts ts us vs fresh few small value inner more) rest end = λ j fits.
    let inside = names ++ name ∷ [] in
    let body_tokens = t.Mark m.OpenBlock ∷ (us ++ (t.Mark m.CloseBlock ∷ vs)) in
    let left = t.Name until_name ∷ ((ts ++ body_tokens) ++ rest) in
    let block = block_at (suc n) (suc d) in
    row_takes (first_at (suc n) (suc d)) j names _ (vs ++ rest) rest (RepeatUntil (length names) count x body) None acts (omega arith) refl
    (ap (λ r. r >>= λ p. count_at p.1 >>= λ k. repeated (until_at k.1) (suc d) block (length names) k.0 (names ++ p.0 ∷ []) k.1) (new_is names name (t.Number count ∷ left) fresh few)
    ∙ ap (λ r. r >>= λ k. repeated (until_at k.1) (suc d) block (length names) k.0 inside k.1) (count_is count left small)
    ∙ ap (λ r. r >>= λ y. block inside y.1 >>= λ q. Some ((RepeatUntil (length names) count y.0 q.0, None), q.1)) (value_step inside (suc d) x ts body_tokens rest value tt)
    ∙ ap (λ r. r >>= λ q. Some ((RepeatUntil (length names) count x q.0, None), q.1))
    (block_is inside n d body us vs rest
    (complete inside n d (Statements body) us inner (t.Mark m.CloseBlock ∷ (vs ++ rest)) (end_of_block (vs ++ rest)))))
    (complete names (suc n) (suc d) (Statements acts) vs more rest end (j - 1) (omega (arith, length-append ts body_tokens, length-append us (t.Mark m.CloseBlock ∷ vs))))
complete _ _ _ _ _ (a_choice names n d x met unmet ts us vs value one two) rest quiet =
    let block = block_at (suc n) (suc d) in
    let choice = choice_at (suc n) (suc d) in
    ap (λ r. r >>= λ p. block names p.1 >>= λ q. otherwise block choice names q.1 >>= λ o. Some (If p.0 q.0 o.0, o.1))
    (value_step names (suc d) x ts (t.Mark m.OpenBlock ∷ (us ++ (t.Mark m.CloseBlock ∷ vs))) rest value tt)
    ∙ ap (λ r. r >>= λ q. otherwise block choice names q.1 >>= λ o. Some (If x q.0 o.0, o.1))
    (block_is names n d met us vs rest (complete names n d (Statements met) us one (t.Mark m.CloseBlock ∷ (vs ++ rest)) (end_of_block (vs ++ rest))))
    ∙ ap (λ r. r >>= λ o. Some (If x met o.0, o.1)) (complete names (suc n) (suc d) (Otherwise unmet) vs two rest quiet)
complete _ _ _ _ _ (no_else names n d) rest quiet = ap (λ o. else_at o (block_at n d) (choice_at n d) names rest) quiet.no_else
complete _ _ _ _ _ (an_else names n d acts us inner) rest quiet =
    block_is names n d acts us [] rest (complete names n d (Statements acts) us inner (t.Mark m.CloseBlock ∷ rest) (end_of_block rest))
complete _ _ _ _ _ (an_else_if names n d act us inner) rest quiet =
    ap (λ r. r >>= λ p. Some (cons p.0 empty, p.1)) (complete names n d (Choice act) us inner rest quiet)
complete _ _ _ _ _ (a_case names n d sort met us one) rest other =
    ap (λ r. r >>= λ q. further (sort_at q.1) (case_at (suc n) (suc d)) names q.1 >>= λ o. Some (If (is_of_sort sort) q.0 o.0, o.1))
    (block_is names n d met us [] rest (complete names n d (Statements met) us one (t.Mark m.CloseBlock ∷ rest) (end_of_block rest)))
    ∙ ap (λ f. further f (case_at (suc n) (suc d)) names rest >>= λ o. Some (If (is_of_sort sort) met o.0, o.1)) (sort_none rest other)
complete _ _ _ _ _ (a_further_case names n d sort next met act us vs one two) rest other =
    let more = t.Name on_name ∷ t.Sort next ∷ vs in
    ap (λ r. r >>= λ q. further (sort_at q.1) (case_at (suc n) (suc d)) names q.1 >>= λ o. Some (If (is_of_sort sort) q.0 o.0, o.1))
    (block_is names n d met us more rest (complete names n d (Statements met) us one (t.Mark m.CloseBlock ∷ (more ++ rest)) (end_of_block (more ++ rest))))
    ∙ ap (with_further sort met) (complete names n (suc d) (Case next act) vs two rest other)

pub rule_is : (acts : Acts) (ts : List Token) → SpellsRule acts ts → rule_at ts ≡ Some acts
unfolding rule_at
rule_is acts ts spelled =
    ap (λ r. r >>= λ p. all_of p.0 p.1)
    (ap (row (first_at 1024 64) (length ts) []) (sym (append-nil ts)) ∙ complete [] 1024 64 (Statements acts) ts spelled [] end_of_rule (length ts) (omega arith))
