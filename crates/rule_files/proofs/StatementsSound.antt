-- Statements that are read are those that the tokens form.
use Rattle.std.proofs.Common.{◌≡◌, ◌<◌, ℕ, zero, suc, ◌^◌, List, [], ◌∷◌, ◌++◌, Option, Some, None, Bool, true, false, eqb, ltb, length, refl, sym, ap, ◌∙◌, subst, arith, append_assoc, append-nil, if◌then◌else◌, inl, inr}
use Rattle.std.proofs.lemmas.Bool.{cases_Bool}
use Rattle.std.proofs.lemmas.Bool.Decides.{nat_tests}
use Rattle.eventkey.proofs.Fields.{bind_some}
use Rattle.rules.specs.declared.arrays.Array.{Array}
use Rattle.rule_files.specs.declared.grammar.token.Mark.{Mark}
use Rattle.rule_files.specs.declared.grammar.token.Mark.TheVariants as m
use Rattle.rule_files.specs.declared.grammar.token.SortToken.{SortToken}
use Rattle.rule_files.specs.declared.grammar.token.Token.{Token}
use Rattle.rule_files.specs.declared.grammar.token.Token.TheVariants as t
use Rattle.rule_files.specs.Grammar.{Tree, Number, place_of}
use Rattle.rule_files.specs.ReadingValues.{◌>>=◌, behind, value_at}
use Rattle.rule_files.specs.ReadingStatements.{Done, Reads, all_of, assignment, begins, block_at, by_start, case_at, case_with, choice_at, choice_with, content, contents, count_at, else_at, else_if, first_at, further, given_at, naming, new_name, one, otherwise, placing, repeated, repetition, room, row, rule_at, sending, sort_at, statements_at, unnamed, until_at, with_name}
use Rattle.rule_files.specs.Scopes.{on_name, until_name}
use Rattle.rule_files.specs.Statements.{Act, Acts, Four, Let, Set, Send, If, Repeat, RepeatUntil, Put, cons, empty, is_of_sort, is_on, Part, Statements, Choice, Otherwise, Case, SpellsContent, not_given, is_given, SpellsSending, SpellsPart, nothing, a_let, a_set, a_put, a_send, an_if, an_on, a_repeat, a_repeat_until, a_choice, no_else, an_else, an_else_if, a_case, a_further_case, SpellsRule}
use Rattle.rule_files.proofs.Sound.{Begins, value_only}
use Rattle.rule_files.proofs.Marks.{behind_only, equal_number, some_is}

two_are : {A : Type 0} (x y : A) (ts us : List Token) → ◌≡◌ {A = Option (A × List Token)} (Some (x, ts)) (Some (y, us)) → (x ≡ y) × (ts ≡ us)
two_are {A} x y ts us e =
    let same = some_is (x, ts) (y, us) e in
    (ap (λ (p : A × List Token). p.0) same, ap (λ (p : A × List Token). p.1) same)

-- the tokens begin with a part, and the others follow it
record BeginsPart (names : List ℕ) (n d : ℕ) (part : Part) (ts rest : List Token) : Type 0 where
  front : List Token
  parts : ts ≡ front ++ rest
  spelled : SpellsPart names n d part front

-- the tokens begin with a statement, which may stand before others
record Starts (names : List ℕ) (n d : ℕ) (p : Done) (ts rest : List Token) : Type 0 where
  front : List Token
  parts : ts ≡ front ++ rest
  before : (acts : Acts) (us more : List Token) → us ++ more ≡ rest → SpellsPart (with_name names p.1) n d (Statements acts) us →
      SpellsPart names n d (Statements (cons p.0 acts)) (front ++ us)

record Block (names : List ℕ) (n d : ℕ) (acts : Acts) (ts rest : List Token) : Type 0 where
  front : List Token
  parts : ts ≡ t.Mark m.OpenBlock ∷ (front ++ (t.Mark m.CloseBlock ∷ rest))
  spelled : SpellsPart names n d (Statements acts) front

abbrev InBlock : (names : List ℕ) (n d : ℕ) (acts : Acts) (ts rest : List Token) → Type 0
InBlock names zero d acts ts rest = ⊥
InBlock names (suc n) zero acts ts rest = ⊥
InBlock names (suc n) (suc d) acts ts rest = Block names n d acts ts rest

abbrev InChoice : (names : List ℕ) (n d : ℕ) (act : Act) (ts rest : List Token) → Type 0
InChoice names zero d act ts rest = ⊥
InChoice names (suc n) d act ts rest = BeginsPart names n d (Choice act) ts rest

-- what stands after `on` and a sort, and that no further one follows
record Cased (names : List ℕ) (n d : ℕ) (sort : SortToken) (act : Act) (ts rest : List Token) : Type 0 where
  case : BeginsPart names n d (Case sort act) ts rest
  ends : sort_at rest ≡ None

abbrev InCase : (names : List ℕ) (n d : ℕ) (sort : SortToken) (act : Act) (ts rest : List Token) → Type 0
InCase names zero d sort act ts rest = ⊥
InCase names (suc n) d sort act ts rest = Cased names n d sort act ts rest

-- ---- names and counts

record NewName (names : List ℕ) (ts : List Token) (p : ℕ × List Token) : Type 0 where
  first : ts ≡ t.Name p.0 ∷ p.1
  fresh : place_of p.0 names ≡ None
  few : length names < 16

is_below : (a b : ℕ) → ltb a b ≡ true → a < b
is_below a b h = grind (arith, nat_tests)

new_only : (names : List ℕ) (ts : List Token) (p : ℕ × List Token) → new_name names ts ≡ Some p → NewName names ts p
new_only names [] p e = absurd cc
new_only names (t.Number n ∷ ts) p e = absurd cc
new_only names (t.Sign n ∷ ts) p e = absurd cc
new_only names (t.Mark n ∷ ts) p e = absurd cc
new_only names (t.Known n ∷ ts) p e = absurd cc
new_only names (t.Word n ∷ ts) p e = absurd cc
new_only names (t.Content n ∷ ts) p e = absurd cc
new_only names (t.Table n ∷ ts) p e = absurd cc
new_only names (t.Array n ∷ ts) p e = absurd cc
new_only names (t.Kind n c ∷ ts) p e = absurd cc
new_only names (t.Own n ∷ ts) p e = absurd cc
new_only names (t.Sort n ∷ ts) p e = absurd cc
new_only names (t.Name name ∷ ts) p e = at (place_of name names) refl e
  where
    at : (o : Option ℕ) → place_of name names ≡ o → room o name names ts ≡ Some p → NewName names (t.Name name ∷ ts) p
    at (Some i) is e = absurd cc
    at None is e = elim (cases_Bool (ltb (length names) 16)) [
      | inl few ↦
          let here : ◌≡◌ {A = Option (ℕ × List Token)} (Some (name, ts)) (Some p) = ap (λ b. if b then Some (name, ts) else None) (sym few) ∙ e in
          subst (NewName names (t.Name name ∷ ts)) (some_is (name, ts) p here) (record { first = refl; fresh = is; few = is_below (length names) 16 few })
      | inr many ↦
          let here : ◌≡◌ {A = Option (ℕ × List Token)} None (Some p) = ap (λ b. if b then Some (name, ts) else None) (sym many) ∙ e in
          absurd cc
    ]

record IsCount (ts : List Token) (p : ℕ × List Token) : Type 0 where
  first : ts ≡ t.Number p.0 ∷ p.1
  small : p.0 < 2 ^ 32

count_only : (ts : List Token) (p : ℕ × List Token) → count_at ts ≡ Some p → IsCount ts p
count_only [] p e = absurd cc
count_only (t.Sign n ∷ ts) p e = absurd cc
count_only (t.Mark n ∷ ts) p e = absurd cc
count_only (t.Known n ∷ ts) p e = absurd cc
count_only (t.Word n ∷ ts) p e = absurd cc
count_only (t.Content n ∷ ts) p e = absurd cc
count_only (t.Table n ∷ ts) p e = absurd cc
count_only (t.Array n ∷ ts) p e = absurd cc
count_only (t.Kind n c ∷ ts) p e = absurd cc
count_only (t.Own n ∷ ts) p e = absurd cc
count_only (t.Sort n ∷ ts) p e = absurd cc
count_only (t.Name n ∷ ts) p e = absurd cc
count_only (t.Number n ∷ ts) p e = elim (cases_Bool (ltb n (2 ^ 32))) [
  | inl small ↦
      let here : ◌≡◌ {A = Option (ℕ × List Token)} (Some (n, ts)) (Some p) = ap (λ b. if b then Some (n, ts) else None) (sym small) ∙ e in
      subst (IsCount (t.Number n ∷ ts)) (some_is (n, ts) p here) (record { first = refl; small = is_below n (2 ^ 32) small })
  | inr large ↦
      let here : ◌≡◌ {A = Option (ℕ × List Token)} None (Some p) = ap (λ b. if b then Some (n, ts) else None) (sym large) ∙ e in
      absurd cc
]

-- ---- statements without blocks

naming_sound : (names : List ℕ) (n d : ℕ) (ts : List Token) (p : Done) (rest : List Token) → naming d names ts ≡ Some (p, rest) → Starts names n d p (t.Mark m.Let ∷ ts) rest
naming_sound names n d ts p rest e =
    let a = bind_some (new_name names ts) (λ p. behind m.Is p.1 >>= λ us. value_at names d us >>= λ q. Some ((Let (length names) q.0, Some p.0), q.1)) (p, rest) e in
    let b = bind_some (behind m.Is a.0.1) (λ us. value_at names d us >>= λ q. Some ((Let (length names) q.0, Some a.0.0), q.1)) (p, rest) a.2 in
    let c = bind_some (value_at names d b.0) (λ q. Some ((Let (length names) q.0, Some a.0.0), q.1)) (p, rest) b.2 in
    let end = two_are (Let (length names) c.0.0, Some a.0.0) p c.0.1 rest c.2 in
    let new = new_only names ts a.0 a.1 in
    let value = value_only names d b.0 c.0.0 c.0.1 c.1 in
    subst (λ (q : Done). Starts names n d q (t.Mark m.Let ∷ ts) rest) end.0 (record {
      front = t.Mark m.Let ∷ t.Name a.0.0 ∷ t.Mark m.Is ∷ value.front;
      parts = ap (λ us. t.Mark m.Let ∷ us) (new.first ∙ ap (λ us. t.Name a.0.0 ∷ us) (behind_only m.Is a.0.1 b.0 b.1
          ∙ ap (λ us. t.Mark m.Is ∷ us) (value.parts ∙ ap (λ us. value.front ++ us) end.1)));
      before = λ acts us left parts more. a_let names n d a.0.0 c.0.0 acts value.front us new.fresh new.few value.spelled more;
    })

assignment_sound : (names : List ℕ) (n d place : ℕ) (ts : List Token) (p : Done) (rest : List Token) → assignment d place names ts ≡ Some (p, rest) → Starts names n d p (t.Word place ∷ ts) rest
assignment_sound names n d place ts p rest e =
    let b = bind_some (behind m.Is ts) (λ us. value_at names d us >>= λ q. Some ((Set place q.0, None), q.1)) (p, rest) e in
    let c = bind_some (value_at names d b.0) (λ q. Some ((Set place q.0, None), q.1)) (p, rest) b.2 in
    let end = two_are (Set place c.0.0, None) p c.0.1 rest c.2 in
    let value = value_only names d b.0 c.0.0 c.0.1 c.1 in
    subst (λ (q : Done). Starts names n d q (t.Word place ∷ ts) rest) end.0 (record {
      front = t.Word place ∷ t.Mark m.Is ∷ value.front;
      parts = ap (λ us. t.Word place ∷ us) (behind_only m.Is ts b.0 b.1 ∙ ap (λ us. t.Mark m.Is ∷ us) (value.parts ∙ ap (λ us. value.front ++ us) end.1));
      before = λ acts us left parts more. a_set names n d place c.0.0 acts value.front us value.spelled more;
    })

placing_sound : (names : List ℕ) (n d : ℕ) (array : Array) (ts : List Token) (p : Done) (rest : List Token) → placing d array names ts ≡ Some (p, rest) →
    Starts names n d p (t.Array array ∷ ts) rest
placing_sound names n d array ts p rest e =
    let a = bind_some (behind m.OpenIndex ts) (λ us. value_at names d us >>= λ p. behind m.CloseIndex p.1 >>= λ vs. behind m.Is vs >>= λ ws.
    value_at names d ws >>= λ q. Some ((Put array p.0 q.0, None), q.1)) (p, rest) e in
    let b = bind_some (value_at names d a.0) (λ p. behind m.CloseIndex p.1 >>= λ vs. behind m.Is vs >>= λ ws.
    value_at names d ws >>= λ q. Some ((Put array p.0 q.0, None), q.1)) (p, rest) a.2 in
    let c = bind_some (behind m.CloseIndex b.0.1) (λ vs. behind m.Is vs >>= λ ws.
    value_at names d ws >>= λ q. Some ((Put array b.0.0 q.0, None), q.1)) (p, rest) b.2 in
    let f = bind_some (behind m.Is c.0) (λ ws. value_at names d ws >>= λ q. Some ((Put array b.0.0 q.0, None), q.1)) (p, rest) c.2 in
    let g = bind_some (value_at names d f.0) (λ q. Some ((Put array b.0.0 q.0, None), q.1)) (p, rest) f.2 in
    let end = two_are (Put array b.0.0 g.0.0, None) p g.0.1 rest g.2 in
    let index = value_only names d a.0 b.0.0 b.0.1 b.1 in
    let value = value_only names d f.0 g.0.0 g.0.1 g.1 in
    let second = t.Mark m.CloseIndex ∷ t.Mark m.Is ∷ value.front in
    subst (λ (q : Done). Starts names n d q (t.Array array ∷ ts) rest) end.0 (record {
      front = t.Array array ∷ t.Mark m.OpenIndex ∷ (index.front ++ second);
      parts = ap (λ us. t.Array array ∷ us) (behind_only m.OpenIndex ts a.0 a.1 ∙ ap (λ us. t.Mark m.OpenIndex ∷ us) (index.parts
          ∙ ap (λ us. index.front ++ us) (behind_only m.CloseIndex b.0.1 c.0 c.1 ∙ ap (λ us. t.Mark m.CloseIndex ∷ us)
          (behind_only m.Is c.0 f.0 f.1 ∙ ap (λ us. t.Mark m.Is ∷ us) (value.parts ∙ ap (λ us. value.front ++ us) end.1)))
          ∙ sym (append_assoc index.front second rest)));
      before = λ acts us left parts more. subst (λ vs. SpellsPart names n d (Statements (cons (Put array b.0.0 g.0.0) acts)) (t.Array array ∷ t.Mark m.OpenIndex ∷ vs))
          (sym (append_assoc index.front second us))
          (a_put names n d array b.0.0 g.0.0 acts index.front value.front us index.spelled value.spelled more);
    })

module _ (names : List ℕ) (d : ℕ) where
  record BeginsContent (mark : Mark) (may : Bool) (p : Tree × Bool) (ts rest : List Token) : Type 0 where
    front : List Token
    parts : ts ≡ front ++ rest
    spelled : SpellsContent names d mark may p.0 p.1 front

  not_there : (mark : Mark) (may : Bool) (ts : List Token) (p : Tree × Bool) (rest : List Token) →
      ◌≡◌ {A = Option ((Tree × Bool) × List Token)} (Some ((Number 0, false), ts)) (Some (p, rest)) → BeginsContent mark may p ts rest
  not_there mark may ts p rest e =
      let end = two_are (Number 0, false) p ts rest e in
      subst (λ (q : Tree × Bool). BeginsContent mark may q ts rest) end.0 (record { front = []; parts = end.1; spelled = not_given may })

  content_sound : (mark : Mark) (may : Bool) (ts : List Token) (p : Tree × Bool) (rest : List Token) → content d mark may names ts ≡ Some (p, rest) → BeginsContent mark may p ts rest
  content_sound mark false ts p rest e = not_there mark false ts p rest e
  content_sound mark true ts p rest e = at (behind mark ts) refl e
    where
      at : (o : Option (List Token)) → behind mark ts ≡ o → given_at o d names ts ≡ Some (p, rest) → BeginsContent mark true p ts rest
      at None is e = not_there mark true ts p rest e
      at (Some us) is e =
          let c = bind_some (value_at names d us) (λ q. Some ((q.0, true), q.1)) (p, rest) e in
          let end = two_are (c.0.0, true) p c.0.1 rest c.2 in
          let value = value_only names d us c.0.0 c.0.1 c.1 in
          subst (λ (q : Tree × Bool). BeginsContent mark true q ts rest) end.0 (record {
            front = t.Mark mark ∷ value.front;
            parts = behind_only mark ts us is ∙ ap (λ vs. t.Mark mark ∷ vs) (value.parts ∙ ap (λ vs. value.front ++ vs) end.1);
            spelled = is_given c.0.0 value.front value.spelled;
          })

  record BeginsContents (four : Four) (ts rest : List Token) : Type 0 where
    first : List Token
    second : List Token
    third : List Token
    fourth : List Token
    one : Bool
    two : Bool
    three : Bool
    last : Bool
    with_a : SpellsContent names d m.With true four.a one first
    with_b : SpellsContent names d m.Comma one four.b two second
    with_c : SpellsContent names d m.Comma two four.c three third
    with_d : SpellsContent names d m.Comma three four.d last fourth
    parts : ts ≡ first ++ (second ++ (third ++ (fourth ++ rest)))

  contents_sound : (ts : List Token) (four : Four) (rest : List Token) → contents d names ts ≡ Some (four, rest) → BeginsContents four ts rest
  contents_sound ts four rest e =
      let a = bind_some (content d m.With true names ts) (λ a. content d m.Comma a.0.1 names a.1 >>= λ b. content d m.Comma b.0.1 names b.1 >>= λ c.
      content d m.Comma c.0.1 names c.1 >>= λ e. Some (record { a = a.0.0; b = b.0.0; c = c.0.0; d = e.0.0 }, e.1)) (four, rest) e in
      let b = bind_some (content d m.Comma a.0.0.1 names a.0.1) (λ b. content d m.Comma b.0.1 names b.1 >>= λ c.
      content d m.Comma c.0.1 names c.1 >>= λ e. Some (record { a = a.0.0.0; b = b.0.0; c = c.0.0; d = e.0.0 }, e.1)) (four, rest) a.2 in
      let c = bind_some (content d m.Comma b.0.0.1 names b.0.1) (λ c.
      content d m.Comma c.0.1 names c.1 >>= λ e. Some (record { a = a.0.0.0; b = b.0.0.0; c = c.0.0; d = e.0.0 }, e.1)) (four, rest) b.2 in
      let f = bind_some (content d m.Comma c.0.0.1 names c.0.1) (λ e. Some (record { a = a.0.0.0; b = b.0.0.0; c = c.0.0.0; d = e.0.0 }, e.1)) (four, rest) c.2 in
      let made : Four = record { a = a.0.0.0; b = b.0.0.0; c = c.0.0.0; d = f.0.0.0 } in
      let end = two_are made four f.0.1 rest f.2 in
      let one = content_sound m.With true ts a.0.0 a.0.1 a.1 in
      let two = content_sound m.Comma a.0.0.1 a.0.1 b.0.0 b.0.1 b.1 in
      let three = content_sound m.Comma b.0.0.1 b.0.1 c.0.0 c.0.1 c.1 in
      let last = content_sound m.Comma c.0.0.1 c.0.1 f.0.0 f.0.1 f.1 in
      subst (λ (q : Four). BeginsContents q ts rest) end.0 (record {
        first = one.front;
        second = two.front;
        third = three.front;
        fourth = last.front;
        one = a.0.0.1;
        two = b.0.0.1;
        three = c.0.0.1;
        last = f.0.0.1;
        with_a = one.spelled;
        with_b = two.spelled;
        with_c = three.spelled;
        with_d = last.spelled;
        parts = one.parts ∙ ap (λ us. one.front ++ us) (two.parts ∙ ap (λ us. two.front ++ us) (three.parts
            ∙ ap (λ us. three.front ++ us) (last.parts ∙ ap (λ us. last.front ++ us) end.1)));
      })

  sending_sound : (n : ℕ) (ts : List Token) (p : Done) (rest : List Token) → sending d names ts ≡ Some (p, rest) → Starts names n d p (t.Mark m.Send ∷ ts) rest
  sending_sound n ts p rest e =
      let a = bind_some (behind m.To ts) (λ us. value_at names d us >>= λ to. behind m.After to.1 >>= λ vs. value_at names d vs >>= λ after.
      contents d names after.1 >>= λ c. Some ((Send to.0 after.0 c.0, None), c.1)) (p, rest) e in
      let b = bind_some (value_at names d a.0) (λ to. behind m.After to.1 >>= λ vs. value_at names d vs >>= λ after.
      contents d names after.1 >>= λ c. Some ((Send to.0 after.0 c.0, None), c.1)) (p, rest) a.2 in
      let c = bind_some (behind m.After b.0.1) (λ vs. value_at names d vs >>= λ after.
      contents d names after.1 >>= λ c. Some ((Send b.0.0 after.0 c.0, None), c.1)) (p, rest) b.2 in
      let f = bind_some (value_at names d c.0) (λ after. contents d names after.1 >>= λ c. Some ((Send b.0.0 after.0 c.0, None), c.1)) (p, rest) c.2 in
      let g = bind_some (contents d names f.0.1) (λ c. Some ((Send b.0.0 f.0.0 c.0, None), c.1)) (p, rest) f.2 in
      let end = two_are (Send b.0.0 f.0.0 g.0.0, None) p g.0.1 rest g.2 in
      let to = value_only names d a.0 b.0.0 b.0.1 b.1 in
      let after = value_only names d c.0 f.0.0 f.0.1 f.1 in
      let four = contents_sound f.0.1 g.0.0 g.0.1 g.1 in
      let given = four.first ++ (four.second ++ (four.third ++ four.fourth)) in
      let tokens = t.Mark m.To ∷ (to.front ++ (t.Mark m.After ∷ (after.front ++ given))) in
      let spelled : SpellsSending names d b.0.0 f.0.0 g.0.0 tokens = record {
        ts = to.front;
        us = after.front;
        first = four.first;
        second = four.second;
        third = four.third;
        fourth = four.fourth;
        one = four.one;
        two = four.two;
        three = four.three;
        four = four.last;
        to = to.spelled;
        after = after.spelled;
        with_a = four.with_a;
        with_b = four.with_b;
        with_c = four.with_c;
        with_d = four.with_d;
        all = refl;
      } in
      let regroup : given ++ rest ≡ four.first ++ (four.second ++ (four.third ++ (four.fourth ++ rest))) =
      append_assoc four.first (four.second ++ (four.third ++ four.fourth)) rest
      ∙ ap (λ us. four.first ++ us) (append_assoc four.second (four.third ++ four.fourth) rest ∙ ap (λ us. four.second ++ us) (append_assoc four.third four.fourth rest)) in
      let last : f.0.1 ≡ given ++ rest = four.parts ∙ ap (λ us. four.first ++ (four.second ++ (four.third ++ (four.fourth ++ us)))) end.1 ∙ sym regroup in
      let parts : ts ≡ tokens ++ rest =
      behind_only m.To ts a.0 a.1 ∙ ap (λ us. t.Mark m.To ∷ us) (to.parts
      ∙ ap (λ us. to.front ++ us) (behind_only m.After b.0.1 c.0 c.1
      ∙ ap (λ us. t.Mark m.After ∷ us) (after.parts ∙ ap (λ us. after.front ++ us) last ∙ sym (append_assoc after.front given rest)))
      ∙ sym (append_assoc to.front (t.Mark m.After ∷ (after.front ++ given)) rest)) in
      subst (λ (q : Done). Starts names n d q (t.Mark m.Send ∷ ts) rest) end.0 (record {
        front = t.Mark m.Send ∷ tokens;
        parts = ap (λ us. t.Mark m.Send ∷ us) parts;
        before = λ acts us left parts more. a_send names n d b.0.0 f.0.0 g.0.0 acts tokens us spelled more;
      })

-- ---- words in some places

until_only : (ts rest : List Token) → until_at ts ≡ Some rest → ts ≡ t.Name until_name ∷ rest
until_only [] rest e = absurd cc
until_only (t.Number n ∷ ts) rest e = absurd cc
until_only (t.Sign n ∷ ts) rest e = absurd cc
until_only (t.Mark n ∷ ts) rest e = absurd cc
until_only (t.Known n ∷ ts) rest e = absurd cc
until_only (t.Word n ∷ ts) rest e = absurd cc
until_only (t.Content n ∷ ts) rest e = absurd cc
until_only (t.Table n ∷ ts) rest e = absurd cc
until_only (t.Array n ∷ ts) rest e = absurd cc
until_only (t.Kind n c ∷ ts) rest e = absurd cc
until_only (t.Own n ∷ ts) rest e = absurd cc
until_only (t.Sort n ∷ ts) rest e = absurd cc
until_only (t.Name name ∷ ts) rest e = elim (cases_Bool (eqb name until_name)) [
  | inl same ↦
      let here : ◌≡◌ {A = Option (List Token)} (Some ts) (Some rest) = ap (λ b. if b then Some ts else None) (sym same) ∙ e in
      ap (λ i. t.Name i ∷ ts) (equal_number until_name name same) ∙ ap (λ us. t.Name until_name ∷ us) (some_is ts rest here)
  | inr other ↦
      let here : ◌≡◌ {A = Option (List Token)} None (Some rest) = ap (λ b. if b then Some ts else None) (sym other) ∙ e in
      absurd cc
]

sort_only : (ts : List Token) (p : SortToken × List Token) → sort_at ts ≡ Some p → ts ≡ t.Name on_name ∷ t.Sort p.0 ∷ p.1
sort_only [] p e = absurd cc
sort_only (t.Number n ∷ ts) p e = absurd cc
sort_only (t.Sign n ∷ ts) p e = absurd cc
sort_only (t.Mark n ∷ ts) p e = absurd cc
sort_only (t.Known n ∷ ts) p e = absurd cc
sort_only (t.Word n ∷ ts) p e = absurd cc
sort_only (t.Content n ∷ ts) p e = absurd cc
sort_only (t.Table n ∷ ts) p e = absurd cc
sort_only (t.Array n ∷ ts) p e = absurd cc
sort_only (t.Kind n c ∷ ts) p e = absurd cc
sort_only (t.Own n ∷ ts) p e = absurd cc
sort_only (t.Sort n ∷ ts) p e = absurd cc
sort_only (t.Name name ∷ []) p e = absurd cc
sort_only (t.Name name ∷ t.Number n ∷ ts) p e = absurd cc
sort_only (t.Name name ∷ t.Sign n ∷ ts) p e = absurd cc
sort_only (t.Name name ∷ t.Mark n ∷ ts) p e = absurd cc
sort_only (t.Name name ∷ t.Known n ∷ ts) p e = absurd cc
sort_only (t.Name name ∷ t.Word n ∷ ts) p e = absurd cc
sort_only (t.Name name ∷ t.Content n ∷ ts) p e = absurd cc
sort_only (t.Name name ∷ t.Table n ∷ ts) p e = absurd cc
sort_only (t.Name name ∷ t.Array n ∷ ts) p e = absurd cc
sort_only (t.Name name ∷ t.Kind n c ∷ ts) p e = absurd cc
sort_only (t.Name name ∷ t.Own n ∷ ts) p e = absurd cc
sort_only (t.Name name ∷ t.Name n ∷ ts) p e = absurd cc
sort_only (t.Name name ∷ t.Sort n ∷ ts) p e = elim (cases_Bool (eqb name on_name)) [
  | inl same ↦
      let here : ◌≡◌ {A = Option (SortToken × List Token)} (Some (n, ts)) (Some p) = ap (λ b. if b then Some (n, ts) else None) (sym same) ∙ e in
      ap (λ i. t.Name i ∷ t.Sort n ∷ ts) (equal_number on_name name same)
      ∙ ap (λ (q : SortToken × List Token). t.Name on_name ∷ t.Sort q.0 ∷ q.1) (some_is (n, ts) p here)
  | inr other ↦
      let here : ◌≡◌ {A = Option (SortToken × List Token)} None (Some p) = ap (λ b. if b then Some (n, ts) else None) (sym other) ∙ e in
      absurd cc
]

-- where no sort stands after an `on`, none does at the front
no_sort : (us more : List Token) → sort_at (us ++ more) ≡ None → is_on us ≡ false
no_sort [] more e = refl
no_sort (t.Number n ∷ us) more e = refl
no_sort (t.Sign n ∷ us) more e = refl
no_sort (t.Mark n ∷ us) more e = refl
no_sort (t.Known n ∷ us) more e = refl
no_sort (t.Word n ∷ us) more e = refl
no_sort (t.Content n ∷ us) more e = refl
no_sort (t.Table n ∷ us) more e = refl
no_sort (t.Array n ∷ us) more e = refl
no_sort (t.Kind n c ∷ us) more e = refl
no_sort (t.Own n ∷ us) more e = refl
no_sort (t.Sort n ∷ us) more e = refl
no_sort (t.Name name ∷ []) more e = refl
no_sort (t.Name name ∷ t.Number n ∷ us) more e = refl
no_sort (t.Name name ∷ t.Sign n ∷ us) more e = refl
no_sort (t.Name name ∷ t.Mark n ∷ us) more e = refl
no_sort (t.Name name ∷ t.Known n ∷ us) more e = refl
no_sort (t.Name name ∷ t.Word n ∷ us) more e = refl
no_sort (t.Name name ∷ t.Content n ∷ us) more e = refl
no_sort (t.Name name ∷ t.Table n ∷ us) more e = refl
no_sort (t.Name name ∷ t.Array n ∷ us) more e = refl
no_sort (t.Name name ∷ t.Kind n c ∷ us) more e = refl
no_sort (t.Name name ∷ t.Own n ∷ us) more e = refl
no_sort (t.Name name ∷ t.Name n ∷ us) more e = refl
no_sort (t.Name name ∷ t.Sort n ∷ us) more e = elim (cases_Bool (eqb name on_name)) [
  | inl same ↦
      let here : ◌≡◌ {A = Option (SortToken × List Token)} (Some (n, us ++ more)) None = ap (λ b. if b then Some (n, us ++ more) else None) (sym same) ∙ e in
      absurd cc
  | inr other ↦ other
]

-- ---- statements with blocks

module _ (n d : ℕ) (block : Reads Acts) (choice : Reads Act) (next : SortToken → Reads Act)
    (block_sound : (names : List ℕ) (ts : List Token) (acts : Acts) (rest : List Token) → block names ts ≡ Some (acts, rest) → InBlock names n d acts ts rest)
    (nested_sound : (names : List ℕ) (ts : List Token) (act : Act) (rest : List Token) → choice names ts ≡ Some (act, rest) → InChoice names n d act ts rest)
    (further_sound : (sort : SortToken) (names : List ℕ) (ts : List Token) (act : Act) (rest : List Token) → next sort names ts ≡ Some (act, rest) → InCase names n d sort act ts rest) where
  else_within : (j k : ℕ) (names : List ℕ) (ts us : List Token) (acts : Acts) (rest : List Token) → ts ≡ t.Mark m.Else ∷ us → InBlock names j k acts us rest →
      BeginsPart names j k (Otherwise acts) ts rest
  else_within zero k names ts us acts rest first h = absurd h
  else_within (suc j) zero names ts us acts rest first h = absurd h
  else_within (suc j) (suc k) names ts us acts rest first h = record {
    front = t.Mark m.Else ∷ t.Mark m.OpenBlock ∷ (h.front ++ (t.Mark m.CloseBlock ∷ []));
    parts = first ∙ ap (λ vs. t.Mark m.Else ∷ vs) (h.parts ∙ ap (λ vs. t.Mark m.OpenBlock ∷ vs) (sym (append_assoc h.front (t.Mark m.CloseBlock ∷ []) rest)));
    spelled = an_else names j k acts h.front h.spelled;
  }

  else_if_within : (j k : ℕ) (names : List ℕ) (ts us : List Token) (act : Act) (rest : List Token) → ts ≡ t.Mark m.Else ∷ t.Mark m.If ∷ us → InChoice names j k act us rest →
      BeginsPart names j k (Otherwise (cons act empty)) ts rest
  else_if_within zero k names ts us act rest first h = absurd h
  else_if_within (suc j) k names ts us act rest first h = record {
    front = t.Mark m.Else ∷ t.Mark m.If ∷ h.front;
    parts = first ∙ ap (λ vs. t.Mark m.Else ∷ t.Mark m.If ∷ vs) h.parts;
    spelled = an_else_if names j k act h.front h.spelled;
  }

  otherwise_sound : (names : List ℕ) (ts : List Token) (acts : Acts) (rest : List Token) → otherwise block choice names ts ≡ Some (acts, rest) → BeginsPart names n d (Otherwise acts) ts rest
  otherwise_sound names ts acts rest e = at (behind m.Else ts) refl e
    where
      inner : (us : List Token) (o : Option (List Token)) → behind m.Else ts ≡ Some us → behind m.If us ≡ o → else_if o block choice names us ≡ Some (acts, rest) →
          BeginsPart names n d (Otherwise acts) ts rest
      inner us None outer is e = else_within n d names ts us acts rest (behind_only m.Else ts us outer) (block_sound names us acts rest e)
      inner us (Some vs) outer is e =
          let one = bind_some (choice names vs) (λ p. Some (cons p.0 empty, p.1)) (acts, rest) e in
          let end = two_are (cons one.0.0 empty) acts one.0.1 rest one.2 in
          subst (λ (xs : Acts). BeginsPart names n d (Otherwise xs) ts rest) end.0
          (else_if_within n d names ts vs one.0.0 rest (behind_only m.Else ts us outer ∙ ap (λ xs. t.Mark m.Else ∷ xs) (behind_only m.If us vs is))
          (subst (λ r. InChoice names n d one.0.0 vs r) end.1 (nested_sound names vs one.0.0 one.0.1 one.1)))

      at : (o : Option (List Token)) → behind m.Else ts ≡ o → else_at o block choice names ts ≡ Some (acts, rest) → BeginsPart names n d (Otherwise acts) ts rest
      at None is e =
          let end = two_are empty acts ts rest e in
          subst (λ (xs : Acts). BeginsPart names n d (Otherwise xs) ts rest) end.0 (record { front = []; parts = end.1; spelled = no_else names n d })
      at (Some us) is e = inner us (behind m.If us) is refl e

  choice_within : (j k : ℕ) (names : List ℕ) (ts us vs rest : List Token) (x : Tree) (met unmet : Acts) → Begins names k 9 x ts us → InBlock names j k met us vs →
      BeginsPart names j k (Otherwise unmet) vs rest → BeginsPart names j k (Choice (If x met unmet)) ts rest
  choice_within zero k names ts us vs rest x met unmet value one two = absurd one
  choice_within (suc j) zero names ts us vs rest x met unmet value one two = absurd one
  choice_within (suc j) (suc k) names ts us vs rest x met unmet value one two = record {
    front = value.front ++ (t.Mark m.OpenBlock ∷ (one.front ++ (t.Mark m.CloseBlock ∷ two.front)));
    parts = value.parts
        ∙ ap (λ xs. value.front ++ xs) (one.parts ∙ ap (λ xs. t.Mark m.OpenBlock ∷ (one.front ++ (t.Mark m.CloseBlock ∷ xs))) two.parts
        ∙ ap (λ xs. t.Mark m.OpenBlock ∷ xs) (sym (append_assoc one.front (t.Mark m.CloseBlock ∷ two.front) rest)))
        ∙ sym (append_assoc value.front (t.Mark m.OpenBlock ∷ (one.front ++ (t.Mark m.CloseBlock ∷ two.front))) rest);
    spelled = a_choice names j k x met unmet value.front one.front two.front value.spelled one.spelled two.spelled;
  }

  choice_sound : (names : List ℕ) (ts : List Token) (act : Act) (rest : List Token) → choice_with d block choice names ts ≡ Some (act, rest) → BeginsPart names n d (Choice act) ts rest
  choice_sound names ts act rest e =
      let a = bind_some (value_at names d ts) (λ x. block names x.1 >>= λ met. otherwise block choice names met.1 >>= λ unmet. Some (If x.0 met.0 unmet.0, unmet.1)) (act, rest) e in
      let b = bind_some (block names a.0.1) (λ met. otherwise block choice names met.1 >>= λ unmet. Some (If a.0.0 met.0 unmet.0, unmet.1)) (act, rest) a.2 in
      let c = bind_some (otherwise block choice names b.0.1) (λ unmet. Some (If a.0.0 b.0.0 unmet.0, unmet.1)) (act, rest) b.2 in
      let end = two_are (If a.0.0 b.0.0 c.0.0) act c.0.1 rest c.2 in
      subst (λ (y : Act). BeginsPart names n d (Choice y) ts rest) end.0
      (choice_within n d names ts a.0.1 b.0.1 rest a.0.0 b.0.0 c.0.0 (value_only names d ts a.0.0 a.0.1 a.1) (block_sound names a.0.1 b.0.0 b.0.1 b.1)
      (subst (λ r. BeginsPart names n d (Otherwise c.0.0) b.0.1 r) end.1 (otherwise_sound names b.0.1 c.0.0 c.0.1 c.1)))

  if_sound : (names : List ℕ) (ts : List Token) (p : Done) (rest : List Token) → unnamed (choice_with d block choice names ts) ≡ Some (p, rest) → Starts names n d p (t.Mark m.If ∷ ts) rest
  if_sound names ts p rest e =
      let a = bind_some (choice_with d block choice names ts) (λ q. Some ((q.0, None), q.1)) (p, rest) e in
      let end = two_are (a.0.0, None) p a.0.1 rest a.2 in
      let chosen = choice_sound names ts a.0.0 a.0.1 a.1 in
      subst (λ (q : Done). Starts names n d q (t.Mark m.If ∷ ts) rest) end.0 (record {
        front = t.Mark m.If ∷ chosen.front;
        parts = ap (λ us. t.Mark m.If ∷ us) (chosen.parts ∙ ap (λ us. chosen.front ++ us) end.1);
        before = λ acts us left parts more. an_if names n d a.0.0 acts chosen.front us chosen.spelled more;
      })

  -- ---- chains of `on`

  last_within : (j k : ℕ) (sort : SortToken) (names : List ℕ) (ts rest : List Token) (met : Acts) → InBlock names j k met ts rest → sort_at rest ≡ None →
      Cased names j k sort (If (is_of_sort sort) met empty) ts rest
  last_within zero k sort names ts rest met one none = absurd one
  last_within (suc j) zero sort names ts rest met one none = absurd one
  last_within (suc j) (suc k) sort names ts rest met one none = record {
    case = record {
      front = t.Mark m.OpenBlock ∷ (one.front ++ (t.Mark m.CloseBlock ∷ []));
      parts = one.parts ∙ ap (λ xs. t.Mark m.OpenBlock ∷ xs) (sym (append_assoc one.front (t.Mark m.CloseBlock ∷ []) rest));
      spelled = a_case names j k sort met one.front one.spelled;
    };
    ends = none;
  }

  further_within : (j k : ℕ) (sort other : SortToken) (names : List ℕ) (ts us vs rest : List Token) (met : Acts) (act : Act) → InBlock names j k met ts us →
      us ≡ t.Name on_name ∷ t.Sort other ∷ vs → InCase names j k other act vs rest → Cased names j k sort (If (is_of_sort sort) met (cons act empty)) ts rest
  further_within zero k sort other names ts us vs rest met act one first two = absurd one
  further_within (suc j) zero sort other names ts us vs rest met act one first two = absurd one
  further_within (suc j) (suc k) sort other names ts us vs rest met act one first two =
      let more = t.Mark m.CloseBlock ∷ t.Name on_name ∷ t.Sort other ∷ two.case.front in record {
        case = record {
          front = t.Mark m.OpenBlock ∷ (one.front ++ more);
          parts = one.parts
              ∙ ap (λ xs. t.Mark m.OpenBlock ∷ (one.front ++ (t.Mark m.CloseBlock ∷ xs))) (first ∙ ap (λ xs. t.Name on_name ∷ t.Sort other ∷ xs) two.case.parts)
              ∙ ap (λ xs. t.Mark m.OpenBlock ∷ xs) (sym (append_assoc one.front more rest));
          spelled = a_further_case names j k sort other met act one.front two.case.front one.spelled two.case.spelled;
        };
        ends = two.ends;
      }

  case_sound : (sort : SortToken) (names : List ℕ) (ts : List Token) (act : Act) (rest : List Token) → case_with block next sort names ts ≡ Some (act, rest) → Cased names n d sort act ts rest
  case_sound sort names ts act rest e =
      let a = bind_some (block names ts) (λ met. further (sort_at met.1) next names met.1 >>= λ unmet. Some (If (is_of_sort sort) met.0 unmet.0, unmet.1)) (act, rest) e in
      let b = bind_some (further (sort_at a.0.1) next names a.0.1) (λ unmet. Some (If (is_of_sort sort) a.0.0 unmet.0, unmet.1)) (act, rest) a.2 in
      let end = two_are (If (is_of_sort sort) a.0.0 b.0.0) act b.0.1 rest b.2 in
      subst (λ (y : Act). Cased names n d sort y ts rest) end.0
      (subst (λ r. Cased names n d sort (If (is_of_sort sort) a.0.0 b.0.0) ts r) end.1
      (at (sort_at a.0.1) a.0.0 a.0.1 b.0.0 b.0.1 (block_sound names ts a.0.0 a.0.1 a.1) refl b.1))
    where
      at : (o : Option (SortToken × List Token)) (met : Acts) (us : List Token) (unmet : Acts) (left : List Token) → InBlock names n d met ts us → sort_at us ≡ o →
          further o next names us ≡ Some (unmet, left) → Cased names n d sort (If (is_of_sort sort) met unmet) ts left
      at None met us unmet left one is read =
          let same = two_are empty unmet us left read in
          subst (λ (xs : Acts). Cased names n d sort (If (is_of_sort sort) met xs) ts left) same.0
          (subst (λ r. Cased names n d sort (If (is_of_sort sort) met empty) ts r) same.1 (last_within n d sort names ts us met one is))
      at (Some q) met us unmet left one is read =
          let f = bind_some (next q.0 names q.1) (λ r. Some (cons r.0 empty, r.1)) (unmet, left) read in
          let same = two_are (cons f.0.0 empty) unmet f.0.1 left f.2 in
          subst (λ (xs : Acts). Cased names n d sort (If (is_of_sort sort) met xs) ts left) same.0
          (further_within n d sort q.0 names ts us q.1 left met f.0.0 one (sort_only us q is)
          (subst (λ r. InCase names n d q.0 f.0.0 q.1 r) same.1 (further_sound q.0 names q.1 f.0.0 f.0.1 f.1)))

  on_sound : (names : List ℕ) (ts : List Token) (p : Done) (rest : List Token) → (sort_at ts >>= λ q. unnamed (case_with block next q.0 names q.1)) ≡ Some (p, rest) →
      Starts names n d p ts rest
  on_sound names ts p rest e =
      let s = bind_some (sort_at ts) (λ q. unnamed (case_with block next q.0 names q.1)) (p, rest) e in
      let a = bind_some (case_with block next s.0.0 names s.0.1) (λ q. Some ((q.0, None), q.1)) (p, rest) s.2 in
      let end = two_are (a.0.0, None) p a.0.1 rest a.2 in
      let cased = case_sound s.0.0 names s.0.1 a.0.0 a.0.1 a.1 in
      let first = sort_only ts s.0 s.1 in
      let none : sort_at rest ≡ None = ap sort_at (sym end.1) ∙ cased.ends in
      subst (λ (q : Done). Starts names n d q ts rest) end.0 (record {
        front = t.Name on_name ∷ t.Sort s.0.0 ∷ cased.case.front;
        parts = first ∙ ap (λ us. t.Name on_name ∷ t.Sort s.0.0 ∷ us) (cased.case.parts ∙ ap (λ us. cased.case.front ++ us) end.1);
        before = λ acts us left parts more.
            an_on names n d s.0.0 a.0.0 acts cased.case.front us cased.case.spelled (no_sort us left (ap sort_at parts ∙ none)) more;
      })

  -- ---- repeats

  repeat_within : (j k : ℕ) (names : List ℕ) (name count : ℕ) (body : Acts) (ts us vs rest : List Token) → ts ≡ t.Name name ∷ us → place_of name names ≡ None → length names < 16 →
      us ≡ t.Number count ∷ vs → count < 2 ^ 32 → InBlock (names ++ name ∷ []) j k body vs rest → Starts names j k (Repeat (length names) count body, None) (t.Mark m.Repeat ∷ ts) rest
  repeat_within zero k names name count body ts us vs rest first fresh few second small h = absurd h
  repeat_within (suc j) zero names name count body ts us vs rest first fresh few second small h = absurd h
  repeat_within (suc j) (suc k) names name count body ts us vs rest first fresh few second small h = record {
    front = t.Mark m.Repeat ∷ t.Name name ∷ t.Number count ∷ t.Mark m.OpenBlock ∷ (h.front ++ (t.Mark m.CloseBlock ∷ []));
    parts = ap (λ xs. t.Mark m.Repeat ∷ xs) (first ∙ ap (λ xs. t.Name name ∷ xs) (second ∙ ap (λ xs. t.Number count ∷ xs) (h.parts
        ∙ ap (λ xs. t.Mark m.OpenBlock ∷ xs) (sym (append_assoc h.front (t.Mark m.CloseBlock ∷ []) rest)))));
    before = λ acts xs left parts more.
        subst (λ ys. SpellsPart names (suc j) (suc k) (Statements (cons (Repeat (length names) count body) acts)) (t.Mark m.Repeat ∷ t.Name name ∷ t.Number count ∷ t.Mark m.OpenBlock ∷ ys))
        (sym (append_assoc h.front (t.Mark m.CloseBlock ∷ []) xs))
        (a_repeat names j k name count body acts h.front xs fresh few small h.spelled more);
  }

  until_within : (j k : ℕ) (names : List ℕ) (name count : ℕ) (x : Tree) (body : Acts) (ts us vs ws zs rest : List Token) → ts ≡ t.Name name ∷ us → place_of name names ≡ None →
      length names < 16 → us ≡ t.Number count ∷ vs → count < 2 ^ 32 → vs ≡ t.Name until_name ∷ ws → Begins (names ++ name ∷ []) k 9 x ws zs →
      InBlock (names ++ name ∷ []) j k body zs rest → Starts names j k (RepeatUntil (length names) count x body, None) (t.Mark m.Repeat ∷ ts) rest
  until_within zero k names name count x body ts us vs ws zs rest first fresh few second small third value h = absurd h
  until_within (suc j) zero names name count x body ts us vs ws zs rest first fresh few second small third value h = absurd h
  until_within (suc j) (suc k) names name count x body ts us vs ws zs rest first fresh few second small third value h =
      let closed = t.Mark m.CloseBlock ∷ [] in
      let inner = t.Mark m.OpenBlock ∷ (h.front ++ closed) in
      let head : List Token → List Token = λ xs. t.Mark m.Repeat ∷ t.Name name ∷ t.Number count ∷ t.Name until_name ∷ xs in
      let block_parts : zs ≡ inner ++ rest = h.parts ∙ ap (λ xs. t.Mark m.OpenBlock ∷ xs) (sym (append_assoc h.front closed rest)) in
      let all : ws ≡ (value.front ++ inner) ++ rest = value.parts ∙ ap (λ xs. value.front ++ xs) block_parts ∙ sym (append_assoc value.front inner rest) in record {
        front = head (value.front ++ inner);
        parts = ap (λ xs. t.Mark m.Repeat ∷ xs) (first ∙ ap (λ xs. t.Name name ∷ xs) (second ∙ ap (λ xs. t.Number count ∷ xs) (third
            ∙ ap (λ xs. t.Name until_name ∷ xs) all)));
        before = λ acts xs left parts more.
            subst (λ ys. SpellsPart names (suc j) (suc k) (Statements (cons (RepeatUntil (length names) count x body) acts)) (head ys))
            (ap (λ ys. value.front ++ (t.Mark m.OpenBlock ∷ ys)) (sym (append_assoc h.front closed xs)) ∙ sym (append_assoc value.front inner xs))
            (a_repeat_until names j k name count x body acts value.front h.front xs fresh few small value.spelled h.spelled more);
      }

  repetition_sound : (names : List ℕ) (ts : List Token) (p : Done) (rest : List Token) → repetition d block names ts ≡ Some (p, rest) → Starts names n d p (t.Mark m.Repeat ∷ ts) rest
  repetition_sound names ts p rest e =
      let a = bind_some (new_name names ts) (λ p. count_at p.1 >>= λ k. repeated (until_at k.1) d block (length names) k.0 (names ++ p.0 ∷ []) k.1) (p, rest) e in
      let b = bind_some (count_at a.0.1) (λ k. repeated (until_at k.1) d block (length names) k.0 (names ++ a.0.0 ∷ []) k.1) (p, rest) a.2 in
      let new = new_only names ts a.0 a.1 in
      let count = count_only a.0.1 b.0 b.1 in
      at (until_at b.0.1) a.0.0 b.0.0 a.0.1 b.0.1 new.first new.fresh new.few count.first count.small refl b.2
    where
      at : (o : Option (List Token)) (name count : ℕ) (us vs : List Token) → ts ≡ t.Name name ∷ us → place_of name names ≡ None → length names < 16 → us ≡ t.Number count ∷ vs →
          count < 2 ^ 32 → until_at vs ≡ o → repeated o d block (length names) count (names ++ name ∷ []) vs ≡ Some (p, rest) → Starts names n d p (t.Mark m.Repeat ∷ ts) rest
      at None name count us vs first fresh few second small is read =
          let c = bind_some (block (names ++ name ∷ []) vs) (λ body. Some ((Repeat (length names) count body.0, None), body.1)) (p, rest) read in
          let end = two_are (Repeat (length names) count c.0.0, None) p c.0.1 rest c.2 in
          subst (λ (q : Done). Starts names n d q (t.Mark m.Repeat ∷ ts) rest) end.0
          (repeat_within n d names name count c.0.0 ts us vs rest first fresh few second small
          (subst (λ r. InBlock (names ++ name ∷ []) n d c.0.0 vs r) end.1 (block_sound (names ++ name ∷ []) vs c.0.0 c.0.1 c.1)))
      at (Some ws) name count us vs first fresh few second small is read =
          let f = bind_some (value_at (names ++ name ∷ []) d ws) (λ x. block (names ++ name ∷ []) x.1 >>= λ body. Some ((RepeatUntil (length names) count x.0 body.0, None), body.1)) (p, rest) read in
          let c = bind_some (block (names ++ name ∷ []) f.0.1) (λ body. Some ((RepeatUntil (length names) count f.0.0 body.0, None), body.1)) (p, rest) f.2 in
          let end = two_are (RepeatUntil (length names) count f.0.0 c.0.0, None) p c.0.1 rest c.2 in
          subst (λ (q : Done). Starts names n d q (t.Mark m.Repeat ∷ ts) rest) end.0
          (until_within n d names name count f.0.0 c.0.0 ts us vs ws f.0.1 rest first fresh few second small (until_only vs ws is)
          (value_only (names ++ name ∷ []) d ws f.0.0 f.0.1 f.1)
          (subst (λ r. InBlock (names ++ name ∷ []) n d c.0.0 f.0.1 r) end.1 (block_sound (names ++ name ∷ []) f.0.1 c.0.0 c.0.1 c.1)))

  start_sound : (mark : Mark) (names : List ℕ) (ts : List Token) (p : Done) (rest : List Token) → by_start mark d block choice names ts ≡ Some (p, rest) → Starts names n d p (t.Mark mark ∷ ts) rest
  start_sound m.Let names ts p rest e = naming_sound names n d ts p rest e
  start_sound m.Send names ts p rest e = sending_sound names d n ts p rest e
  start_sound m.If names ts p rest e = if_sound names ts p rest e
  start_sound m.Repeat names ts p rest e = repetition_sound names ts p rest e
  start_sound m.Not names ts p rest e = absurd cc
  start_sound m.Is names ts p rest e = absurd cc
  start_sound m.Comma names ts p rest e = absurd cc
  start_sound m.Open names ts p rest e = absurd cc
  start_sound m.Close names ts p rest e = absurd cc
  start_sound m.OpenIndex names ts p rest e = absurd cc
  start_sound m.CloseIndex names ts p rest e = absurd cc
  start_sound m.OpenBlock names ts p rest e = absurd cc
  start_sound m.CloseBlock names ts p rest e = absurd cc
  start_sound m.To names ts p rest e = absurd cc
  start_sound m.After names ts p rest e = absurd cc
  start_sound m.With names ts p rest e = absurd cc
  start_sound m.Else names ts p rest e = absurd cc
  start_sound m.Min names ts p rest e = absurd cc
  start_sound m.Max names ts p rest e = absurd cc
  start_sound (m.Draw law) names ts p rest e = absurd cc
  start_sound m.Normal names ts p rest e = absurd cc
  start_sound m.Triangular names ts p rest e = absurd cc
  start_sound m.Choose names ts p rest e = absurd cc
  start_sound m.Kept names ts p rest e = absurd cc
  start_sound m.Count names ts p rest e = absurd cc

  one_sound : (names : List ℕ) (ts : List Token) (p : Done) (rest : List Token) → one d block choice next names ts ≡ Some (p, rest) → Starts names n d p ts rest
  one_sound names [] p rest e = absurd cc
  one_sound names (t.Number n ∷ ts) p rest e = absurd cc
  one_sound names (t.Sign n ∷ ts) p rest e = absurd cc
  one_sound names (t.Known n ∷ ts) p rest e = absurd cc
  one_sound names (t.Content n ∷ ts) p rest e = absurd cc
  one_sound names (t.Table n ∷ ts) p rest e = absurd cc
  one_sound names (t.Kind n c ∷ ts) p rest e = absurd cc
  one_sound names (t.Own n ∷ ts) p rest e = absurd cc
  one_sound names (t.Sort n ∷ ts) p rest e = absurd cc
  one_sound names (t.Name name ∷ ts) p rest e = on_sound names (t.Name name ∷ ts) p rest e
  one_sound names (t.Word place ∷ ts) p rest e = assignment_sound names n d place ts p rest e
  one_sound names (t.Array array ∷ ts) p rest e = placing_sound names n d array ts p rest e
  one_sound names (t.Mark mark ∷ ts) p rest e = start_sound mark names ts p rest e

  abbrev first : Reads Done
  first = one d block choice next

  nothing_more : (names : List ℕ) (ts : List Token) (acts : Acts) (rest : List Token) → ◌≡◌ {A = Option (Acts × List Token)} (Some (empty, ts)) (Some (acts, rest)) →
      BeginsPart names n d (Statements acts) ts rest
  nothing_more names ts acts rest e =
      let end = two_are empty acts ts rest e in
      subst (λ (xs : Acts). BeginsPart names n d (Statements xs) ts rest) end.0 (record { front = []; parts = end.1; spelled = nothing names n d })

  row_sound : (j : ℕ) (names : List ℕ) (ts : List Token) (acts : Acts) (rest : List Token) → row first j names ts ≡ Some (acts, rest) → BeginsPart names n d (Statements acts) ts rest
  row_sound zero names ts acts rest e = nothing_more names ts acts rest e
  row_sound (suc j) names ts acts rest e = elim (cases_Bool (begins ts)) [
    | inl start ↦
        let took : (first names ts >>= λ p. row first j (with_name names p.0.1) p.1 >>= λ q. Some (cons p.0.0 q.0, q.1)) ≡ Some (acts, rest) =
        ap (λ b. if b then (first names ts >>= λ p. row first j (with_name names p.0.1) p.1 >>= λ q. Some (cons p.0.0 q.0, q.1)) else Some (empty, ts)) (sym start) ∙ e in
        let a = bind_some (first names ts) (λ p. row first j (with_name names p.0.1) p.1 >>= λ q. Some (cons p.0.0 q.0, q.1)) (acts, rest) took in
        let b = bind_some (row first j (with_name names a.0.0.1) a.0.1) (λ q. Some (cons a.0.0.0 q.0, q.1)) (acts, rest) a.2 in
        let end = two_are (cons a.0.0.0 b.0.0) acts b.0.1 rest b.2 in
        let front_one = one_sound names ts a.0.0 a.0.1 a.1 in
        let more = row_sound j (with_name names a.0.0.1) a.0.1 b.0.0 b.0.1 b.1 in
        subst (λ (xs : Acts). BeginsPart names n d (Statements xs) ts rest) end.0 (record {
          front = front_one.front ++ more.front;
          parts = front_one.parts ∙ ap (λ us. front_one.front ++ us) (more.parts ∙ ap (λ us. more.front ++ us) end.1) ∙ sym (append_assoc front_one.front more.front rest);
          spelled = front_one.before b.0.0 more.front b.0.1 (sym more.parts) more.spelled;
        })
    | inr stop ↦
        nothing_more names ts acts rest
        (ap (λ b. if b then (first names ts >>= λ p. row first j (with_name names p.0.1) p.1 >>= λ q. Some (cons p.0.0 q.0, q.1)) else Some (empty, ts)) (sym stop) ∙ e)
  ]

record IsInside (n d : ℕ) : Type 0 where
  blocks : (names : List ℕ) (ts : List Token) (acts : Acts) (rest : List Token) → block_at n d names ts ≡ Some (acts, rest) → InBlock names n d acts ts rest
  choices : (names : List ℕ) (ts : List Token) (act : Act) (rest : List Token) → choice_at n d names ts ≡ Some (act, rest) → InChoice names n d act ts rest
  cases : (sort : SortToken) (names : List ℕ) (ts : List Token) (act : Act) (rest : List Token) → case_at n d sort names ts ≡ Some (act, rest) → InCase names n d sort act ts rest

statements_sound : (n d : ℕ) → IsInside n d → (j : ℕ) (names : List ℕ) (ts : List Token) (acts : Acts) (rest : List Token) → row (first_at n d) j names ts ≡ Some (acts, rest) →
    BeginsPart names n d (Statements acts) ts rest
statements_sound n d inside = row_sound n d (block_at n d) (choice_at n d) (case_at n d) inside.blocks inside.choices inside.cases

block_whole : (n d : ℕ) → IsInside n d → (names : List ℕ) (ts : List Token) (acts : Acts) (rest : List Token) → block_at (suc n) (suc d) names ts ≡ Some (acts, rest) →
    Block names n d acts ts rest
block_whole n d inside names ts acts rest e =
    let a = bind_some (behind m.OpenBlock ts) (λ us. row (first_at n d) (length us) names us >>= λ p. behind m.CloseBlock p.1 >>= λ rest. Some (p.0, rest)) (acts, rest) e in
    let b = bind_some (row (first_at n d) (length a.0) names a.0) (λ p. behind m.CloseBlock p.1 >>= λ rest. Some (p.0, rest)) (acts, rest) a.2 in
    let c = bind_some (behind m.CloseBlock b.0.1) (λ rest. Some (b.0.0, rest)) (acts, rest) b.2 in
    let end = two_are b.0.0 acts c.0 rest c.2 in
    let inner = statements_sound n d inside (length a.0) names a.0 b.0.0 b.0.1 b.1 in
    subst (λ (xs : Acts). Block names n d xs ts rest) end.0 (record {
      front = inner.front;
      parts = behind_only m.OpenBlock ts a.0 a.1 ∙ ap (λ us. t.Mark m.OpenBlock ∷ us) (inner.parts
          ∙ ap (λ us. inner.front ++ us) (behind_only m.CloseBlock b.0.1 c.0 c.1 ∙ ap (λ us. t.Mark m.CloseBlock ∷ us) end.1));
      spelled = inner.spelled;
    })

block_inside : (n d : ℕ) → ((e : ℕ) → IsInside n e) → (names : List ℕ) (ts : List Token) (acts : Acts) (rest : List Token) → block_at (suc n) d names ts ≡ Some (acts, rest) →
    InBlock names (suc n) d acts ts rest
block_inside n zero inside names ts acts rest e = absurd cc
block_inside n (suc d) inside names ts acts rest e = block_whole n d (inside d) names ts acts rest e

inside_sound : (n d : ℕ) → IsInside n d
inside_sound zero d = record {
  blocks = λ names ts acts rest e. absurd cc;
  choices = λ names ts act rest e. absurd cc;
  cases = λ sort names ts act rest e. absurd cc;
}
inside_sound (suc n) d =
    let here = inside_sound n d in record {
      blocks = λ names ts acts rest e. block_inside n d (inside_sound n) names ts acts rest e;
      choices = λ names ts act rest e. choice_sound n d (block_at n d) (choice_at n d) (case_at n d) here.blocks here.choices here.cases names ts act rest e;
      cases = λ sort names ts act rest e. case_sound n d (block_at n d) (choice_at n d) (case_at n d) here.blocks here.choices here.cases sort names ts act rest e;
    }

no_tokens : (acts xs : Acts) (rest : List Token) → all_of xs rest ≡ Some acts → (xs ≡ acts) × (rest ≡ [])
no_tokens acts xs [] e = (some_is xs acts e, refl)
no_tokens acts xs (token ∷ rest) e = absurd cc

all_sound : (n d : ℕ) (ts : List Token) (acts : Acts) → (statements_at n d [] ts >>= λ p. all_of p.0 p.1) ≡ Some acts → SpellsPart [] n d (Statements acts) ts
all_sound n d ts acts e =
    let a = bind_some (statements_at n d [] ts) (λ p. all_of p.0 p.1) acts e in
    let end = no_tokens acts a.0.0 a.0.1 a.2 in
    let all = statements_sound n d (inside_sound n d) (length ts) [] ts a.0.0 a.0.1 a.1 in
    subst (λ (xs : Acts). SpellsPart [] n d (Statements xs) ts) end.0
    (subst (SpellsPart [] n d (Statements a.0.0)) (sym (append-nil all.front) ∙ ap (λ us. all.front ++ us) (sym end.1) ∙ sym all.parts) all.spelled)

pub rule_only : (acts : Acts) (ts : List Token) → rule_at ts ≡ Some acts → SpellsRule acts ts
unfolding rule_at
rule_only acts ts e = all_sound 1024 64 ts acts e
