-- What is read is what the text means.
use Rattle.std.proofs.Common.{◌≡◌, ◌≤◌, ◌⊎◌, ℕ, zero, suc, List, [], ◌∷◌, ◌++◌, Option, Some, None, eqb, length, refl, sym, ap, ◌∙◌, subst, arith, append_assoc, if◌then◌else◌, inl, inr}
use Rattle.std.proofs.lemmas.Bool.{cases_Bool}
use Rattle.eventkey.proofs.Fields.{bind_some}
use Rattle.rules.specs.declared.arrays.Array.{Array}
use Rattle.rules.specs.declared.tree.Law.{Law}
use Rattle.rules.specs.declared.tree.Operator.{Operator}
use Rattle.rules.specs.declared.tree.Operator.TheVariants as o
use Rattle.rule_files.specs.declared.grammar.token.Mark.{Mark}
use Rattle.rule_files.specs.declared.grammar.token.Mark.TheVariants as m
use Rattle.rule_files.specs.declared.grammar.token.Token.{Token}
use Rattle.rule_files.specs.declared.grammar.token.Token.TheVariants as t
use Rattle.rule_files.specs.Grammar.{Tree, Number, Not, Two, Entry, Draw, Normal, Triangular, Choose, Element, height, leaf, looseness, member, Spells, a_leaf, a_not, in_brackets, an_entry, an_element, a_member, a_count, a_draw, a_normal, a_triangular, a_chosen, the_least, the_greatest, compared, joined, tighter}
use Rattle.rule_files.specs.ReadingValues.{Reader, ◌>>=◌, and_rest, behind, by_mark, chain, enclosed, go, chosen_at, inside, level, made, of_kind, pair_at, primary, table_at, three_at, turns, value_at}
use Rattle.rule_files.proofs.Marks.{behind_only, equal_number, made_only, not_six, some_is}

-- the tokens begin with what they form, and the others follow it
pub record Begins (names : List ℕ) (d k : ℕ) (x : Tree) (ts rest : List Token) : Type 0 where
  pub front : List Token
  pub parts : ts ≡ front ++ rest
  pub spelled : Spells names d k x front

both_are : (x y : Tree) (ts us : List Token) → ◌≡◌ {A = Option (Tree × List Token)} (Some (x, ts)) (Some (y, us)) → (x ≡ y) × (ts ≡ us)
both_are x y ts us e =
    let same = some_is (x, ts) (y, us) e in
    (ap (λ (p : Tree × List Token). p.0) same, ap (λ (p : Tree × List Token). p.1) same)

-- a chain goes on by one operator
record GoesOn (k n : ℕ) (operand : Reader) (x : Tree) (ts : List Token) (y : Tree) (rest : List Token) : Type 0 where
  o : Operator
  us : List Token
  first : ts ≡ t.Sign o ∷ us
  loose : looseness o ≡ k
  z : Tree
  vs : List Token
  read : operand us ≡ Some (z, vs)
  low : height (Two o x z) ≤ 256
  more : chain k operand n (Two o x z) vs ≡ Some (y, rest)

abbrev Step : (k n : ℕ) (operand : Reader) (x : Tree) (ts : List Token) (y : Tree) (rest : List Token) → Type 0
Step k n operand x ts y rest = ((x ≡ y) × (ts ≡ rest)) ⊎ GoesOn k n operand x ts y rest

one_step : (k n : ℕ) (operand : Reader) (x : Tree) (ts : List Token) (y : Tree) (rest : List Token) → chain k operand (suc n) x ts ≡ Some (y, rest) →
    Step k n operand x ts y rest
one_step k n operand x [] y rest e = inl (both_are x y _ rest e)
one_step k n operand x (t.Number m ∷ ts) y rest e = inl (both_are x y _ rest e)
one_step k n operand x (t.Mark m ∷ ts) y rest e = inl (both_are x y _ rest e)
one_step k n operand x (t.Known m ∷ ts) y rest e = inl (both_are x y _ rest e)
one_step k n operand x (t.Word m ∷ ts) y rest e = inl (both_are x y _ rest e)
one_step k n operand x (t.Content m ∷ ts) y rest e = inl (both_are x y _ rest e)
one_step k n operand x (t.Table m ∷ ts) y rest e = inl (both_are x y _ rest e)
one_step k n operand x (t.Array m ∷ ts) y rest e = inl (both_are x y _ rest e)
one_step k n operand x (t.Name m ∷ ts) y rest e = inl (both_are x y _ rest e)
one_step k n operand x (t.Kind m c ∷ ts) y rest e = inl (both_are x y _ rest e)
one_step k n operand x (t.Own m ∷ ts) y rest e = inl (both_are x y _ rest e)
one_step k n operand x (t.Sort m ∷ ts) y rest e = inl (both_are x y _ rest e)
one_step k n operand x (t.Sign o ∷ ts) y rest e = elim (cases_Bool (eqb (looseness o) k)) [
  | inl here ↦
      let took : (operand ts >>= λ q. made (Two o x q.0) q.1 >>= λ r. chain k operand n r.0 r.1) ≡ Some (y, rest) =
      ap (λ b. go (if b then Some (o, ts) else None) x (t.Sign o ∷ ts) operand (chain k operand n)) (sym here) ∙ e in
      let one = bind_some (operand ts) (λ q. made (Two o x q.0) q.1 >>= λ r. chain k operand n r.0 r.1) (y, rest) took in
      let two = bind_some (made (Two o x one.0.0) one.0.1) (λ r. chain k operand n r.0 r.1) (y, rest) one.2 in
      let put = made_only (Two o x one.0.0) one.0.1 two.0 two.1 in
      inr (record {
        o = o;
        us = ts;
        first = refl;
        loose = equal_number k (looseness o) here;
        z = one.0.0;
        vs = one.0.1;
        read = one.1;
        low = put.0;
        more = subst (λ (r : Tree × List Token). chain k operand n r.0 r.1 ≡ Some (y, rest)) (sym put.1) two.2;
      })
  | inr no_more ↦
      let left : ◌≡◌ {A = Option (Tree × List Token)} (Some (x, t.Sign o ∷ ts)) (Some (y, rest)) =
      ap (λ b. go (if b then Some (o, ts) else None) x (t.Sign o ∷ ts) operand (chain k operand n)) (sym no_more) ∙ e in
      inl (both_are x y _ rest left)
]

module _ (names : List ℕ) where
  abbrev IsSound : ℕ → ℕ → Reader → Type 0
  IsSound d k reader = (ts : List Token) (x : Tree) (rest : List Token) → reader ts ≡ Some (x, rest) → Begins names d k x ts rest

  -- a chain that ends
  ended : (d k : ℕ) (x y : Tree) (front ts rest : List Token) → Spells names d k x front → (x ≡ y) × (ts ≡ rest) → Begins names d k y (front ++ ts) rest
  ended d k x y front ts rest spelled both =
      record { front = front; parts = ap (λ us. front ++ us) both.1; spelled = subst (λ z. Spells names d k z front) both.0 spelled }

  regroup : (front ts us right vs : List Token) (o : Operator) → ts ≡ t.Sign o ∷ us → us ≡ right ++ vs → front ++ ts ≡ (front ++ (t.Sign o ∷ right)) ++ vs
  regroup front ts us right vs o first parts =
      ap (λ xs. front ++ xs) first ∙ ap (λ xs. front ++ (t.Sign o ∷ xs)) parts ∙ sym (append_assoc front (t.Sign o ∷ right) vs)

  module _ (d k : ℕ) (operand : Reader) (sound : IsSound d k operand) where
    -- a chain after the tokens that form the front
    chain_sound : (k ≡ 6 → ⊥) → (n : ℕ) (x : Tree) (front ts : List Token) → Spells names d (suc k) x front → (y : Tree) (rest : List Token) →
        chain (suc k) operand n x ts ≡ Some (y, rest) → Begins names d (suc k) y (front ++ ts) rest
    chain_sound other zero x front ts spelled y rest e = ended d (suc k) x y front ts rest spelled (both_are x y ts rest e)
    chain_sound other (suc n) x front ts spelled y rest e = elim (one_step (suc k) n operand x ts y rest e) [
      | inl both ↦ ended d (suc k) x y front ts rest spelled both
      | inr step ↦
          let right_side = sound step.us step.z step.vs step.read in
          let more = chain_sound other n (Two step.o x step.z) (front ++ (t.Sign step.o ∷ right_side.front)) step.vs
          (joined d k step.o x step.z front right_side.front step.loose other step.low spelled right_side.spelled) y rest step.more in
          record {
            front = more.front;
            parts = regroup front ts step.us right_side.front step.vs step.o step.first right_side.parts ∙ more.parts;
            spelled = more.spelled;
          }
    ]

    -- at most one comparison
    compare_sound : k ≡ 6 → (x : Tree) (front ts : List Token) → Spells names d k x front → (y : Tree) (rest : List Token) →
        chain (suc k) operand 1 x ts ≡ Some (y, rest) → Begins names d (suc k) y (front ++ ts) rest
    compare_sound six x front ts spelled y rest e = elim (one_step (suc k) 0 operand x ts y rest e) [
      | inl both ↦ ended d (suc k) x y front ts rest (tighter d k x front spelled) both
      | inr step ↦
          let right_side = sound step.us step.z step.vs step.read in
          let pair = subst (λ j. looseness step.o ≡ suc j → Spells names d j x front → Spells names d j step.z right_side.front →
          Spells names d (suc j) (Two step.o x step.z) (front ++ (t.Sign step.o ∷ right_side.front))) (sym six)
          (λ loose one two. compared d step.o x step.z front right_side.front loose step.low one two) step.loose spelled right_side.spelled in
          let all = ended d (suc k) (Two step.o x step.z) y (front ++ (t.Sign step.o ∷ right_side.front)) step.vs rest pair
          (both_are (Two step.o x step.z) y step.vs rest step.more) in
          record {
            front = all.front;
            parts = regroup front ts step.us right_side.front step.vs step.o step.first right_side.parts ∙ all.parts;
            spelled = all.spelled;
          }
    ]

  -- what the reader of the inside reads is nested one level less deep
  abbrev Within : ℕ → ℕ → Tree → List Token → List Token → Type 0
  Within zero k x ts rest = ⊥
  Within (suc d) k x ts rest = Begins names d k x ts rest

  -- what is before the closing mark
  record Front (d : ℕ) (x : Tree) (closing : Mark) (ts rest : List Token) : Type 0 where
    front : List Token
    parts : ts ≡ front ++ (t.Mark closing ∷ rest)
    spelled : Spells names d 9 x front

  abbrev Closed : ℕ → Tree → Mark → List Token → List Token → Type 0
  Closed zero x closing ts rest = ⊥
  Closed (suc d) x closing ts rest = Front d x closing ts rest

  closed : (d : ℕ) (x : Tree) (closing : Mark) (ts us rest : List Token) → Within d 9 x ts us → us ≡ t.Mark closing ∷ rest → Closed d x closing ts rest
  closed zero x closing ts us rest h e = absurd h
  closed (suc d) x closing ts us rest h e = record { front = h.front; parts = h.parts ∙ ap (λ vs. h.front ++ vs) e; spelled = h.spelled }

  not_within : (d : ℕ) (x : Tree) (ts rest : List Token) → height (Not x) ≤ 256 → Within d 0 x ts rest → Begins names d 0 (Not x) (t.Mark m.Not ∷ ts) rest
  not_within zero x ts rest low h = absurd h
  not_within (suc d) x ts rest low h =
      record { front = t.Mark m.Not ∷ h.front; parts = ap (λ us. t.Mark m.Not ∷ us) h.parts; spelled = a_not d x h.front low h.spelled }

  brackets_within : (d : ℕ) (x : Tree) (ts rest : List Token) → Closed d x m.Close ts rest → Begins names d 0 x (t.Mark m.Open ∷ ts) rest
  brackets_within zero x ts rest h = absurd h
  brackets_within (suc d) x ts rest h = record {
    front = t.Mark m.Open ∷ (h.front ++ t.Mark m.Close ∷ []);
    parts = ap (λ us. t.Mark m.Open ∷ us) (h.parts ∙ sym (append_assoc h.front (t.Mark m.Close ∷ []) rest));
    spelled = in_brackets d x h.front h.spelled;
  }

  entry_within : (d table : ℕ) (x : Tree) (ts us rest : List Token) → height (Entry table x) ≤ 256 → ts ≡ t.Mark m.OpenIndex ∷ us → Closed d x m.CloseIndex us rest →
      Begins names d 0 (Entry table x) (t.Table table ∷ ts) rest
  entry_within zero table x ts us rest low e h = absurd h
  entry_within (suc d) table x ts us rest low e h = record {
    front = t.Table table ∷ t.Mark m.OpenIndex ∷ (h.front ++ t.Mark m.CloseIndex ∷ []);
    parts = ap (λ vs. t.Table table ∷ vs) e
        ∙ ap (λ vs. t.Table table ∷ t.Mark m.OpenIndex ∷ vs) (h.parts ∙ sym (append_assoc h.front (t.Mark m.CloseIndex ∷ []) rest));
    spelled = an_entry d table x h.front low h.spelled;
  }

  element_within : (d : ℕ) (array : Array) (x : Tree) (ts us rest : List Token) → height (Element array x) ≤ 256 → ts ≡ t.Mark m.OpenIndex ∷ us →
      Closed d x m.CloseIndex us rest → Begins names d 0 (Element array x) (t.Array array ∷ ts) rest
  element_within zero array x ts us rest low e h = absurd h
  element_within (suc d) array x ts us rest low e h = record {
    front = t.Array array ∷ t.Mark m.OpenIndex ∷ (h.front ++ t.Mark m.CloseIndex ∷ []);
    parts = ap (λ vs. t.Array array ∷ vs) e
        ∙ ap (λ vs. t.Array array ∷ t.Mark m.OpenIndex ∷ vs) (h.parts ∙ sym (append_assoc h.front (t.Mark m.CloseIndex ∷ []) rest));
    spelled = an_element d array x h.front low h.spelled;
  }

  member_within : (d first count : ℕ) (x : Tree) (ts us rest : List Token) → height (member first count x) ≤ 256 → ts ≡ t.Mark m.OpenIndex ∷ us →
      Closed d x m.CloseIndex us rest → Begins names d 0 (member first count x) (t.Kind first count ∷ ts) rest
  member_within zero first count x ts us rest low e h = absurd h
  member_within (suc d) first count x ts us rest low e h = record {
    front = t.Kind first count ∷ t.Mark m.OpenIndex ∷ (h.front ++ t.Mark m.CloseIndex ∷ []);
    parts = ap (λ vs. t.Kind first count ∷ vs) e
        ∙ ap (λ vs. t.Kind first count ∷ t.Mark m.OpenIndex ∷ vs) (h.parts ∙ sym (append_assoc h.front (t.Mark m.CloseIndex ∷ []) rest));
    spelled = a_member d first count x h.front low h.spelled;
  }

  draw_within : (d : ℕ) (law : Law) (x : Tree) (ts us rest : List Token) → height (Draw law x) ≤ 256 → ts ≡ t.Mark m.Open ∷ us → Closed d x m.Close us rest →
      Begins names d 0 (Draw law x) (t.Mark (m.Draw law) ∷ ts) rest
  draw_within zero law x ts us rest low e h = absurd h
  draw_within (suc d) law x ts us rest low e h = record {
    front = t.Mark (m.Draw law) ∷ t.Mark m.Open ∷ (h.front ++ t.Mark m.Close ∷ []);
    parts = ap (λ vs. t.Mark (m.Draw law) ∷ vs) e
        ∙ ap (λ vs. t.Mark (m.Draw law) ∷ t.Mark m.Open ∷ vs) (h.parts ∙ sym (append_assoc h.front (t.Mark m.Close ∷ []) rest));
    spelled = a_draw d law x h.front low h.spelled;
  }

  -- two values in brackets, after a mark
  pair_parts : (ts us vs rest one two : List Token) → ts ≡ t.Mark m.Open ∷ us → us ≡ one ++ (t.Mark m.Comma ∷ vs) → vs ≡ two ++ (t.Mark m.Close ∷ rest) →
      ts ≡ (t.Mark m.Open ∷ (one ++ t.Mark m.Comma ∷ (two ++ t.Mark m.Close ∷ []))) ++ rest
  pair_parts ts us vs rest one two e f g =
      e ∙ ap (λ xs. t.Mark m.Open ∷ xs) (f
      ∙ ap (λ xs. one ++ (t.Mark m.Comma ∷ xs)) (g ∙ sym (append_assoc two (t.Mark m.Close ∷ []) rest))
      ∙ sym (append_assoc one (t.Mark m.Comma ∷ (two ++ t.Mark m.Close ∷ [])) rest))

  least_within : (d : ℕ) (x y : Tree) (ts us vs rest : List Token) → height (Two o.Least x y) ≤ 256 → ts ≡ t.Mark m.Open ∷ us →
      Closed d x m.Comma us vs → Closed d y m.Close vs rest → Begins names d 0 (Two o.Least x y) (t.Mark m.Min ∷ ts) rest
  least_within zero x y ts us vs rest low e h i = absurd h
  least_within (suc d) x y ts us vs rest low e h i = record {
    front = t.Mark m.Min ∷ t.Mark m.Open ∷ (h.front ++ t.Mark m.Comma ∷ (i.front ++ t.Mark m.Close ∷ []));
    parts = ap (λ xs. t.Mark m.Min ∷ xs) (pair_parts ts us vs rest h.front i.front e h.parts i.parts);
    spelled = the_least d x y h.front i.front low h.spelled i.spelled;
  }

  greatest_within : (d : ℕ) (x y : Tree) (ts us vs rest : List Token) → height (Two o.Greatest x y) ≤ 256 → ts ≡ t.Mark m.Open ∷ us →
      Closed d x m.Comma us vs → Closed d y m.Close vs rest → Begins names d 0 (Two o.Greatest x y) (t.Mark m.Max ∷ ts) rest
  greatest_within zero x y ts us vs rest low e h i = absurd h
  greatest_within (suc d) x y ts us vs rest low e h i = record {
    front = t.Mark m.Max ∷ t.Mark m.Open ∷ (h.front ++ t.Mark m.Comma ∷ (i.front ++ t.Mark m.Close ∷ []));
    parts = ap (λ xs. t.Mark m.Max ∷ xs) (pair_parts ts us vs rest h.front i.front e h.parts i.parts);
    spelled = the_greatest d x y h.front i.front low h.spelled i.spelled;
  }

  normal_within : (d : ℕ) (x y : Tree) (ts us vs rest : List Token) → height (Normal x y) ≤ 256 → ts ≡ t.Mark m.Open ∷ us →
      Closed d x m.Comma us vs → Closed d y m.Close vs rest → Begins names d 0 (Normal x y) (t.Mark m.Normal ∷ ts) rest
  normal_within zero x y ts us vs rest low e h i = absurd h
  normal_within (suc d) x y ts us vs rest low e h i = record {
    front = t.Mark m.Normal ∷ t.Mark m.Open ∷ (h.front ++ t.Mark m.Comma ∷ (i.front ++ t.Mark m.Close ∷ []));
    parts = ap (λ xs. t.Mark m.Normal ∷ xs) (pair_parts ts us vs rest h.front i.front e h.parts i.parts);
    spelled = a_normal d x y h.front i.front low h.spelled i.spelled;
  }

  -- three values in brackets, after a mark
  three_parts : (ts us vs ws rest one two three : List Token) → ts ≡ t.Mark m.Open ∷ us → us ≡ one ++ (t.Mark m.Comma ∷ vs) →
      vs ≡ two ++ (t.Mark m.Comma ∷ ws) → ws ≡ three ++ (t.Mark m.Close ∷ rest) →
      ts ≡ (t.Mark m.Open ∷ (one ++ t.Mark m.Comma ∷ (two ++ t.Mark m.Comma ∷ (three ++ t.Mark m.Close ∷ [])))) ++ rest
  three_parts ts us vs ws rest one two three e f g h =
      let last = three ++ t.Mark m.Close ∷ [] in
      e ∙ ap (λ xs. t.Mark m.Open ∷ xs) (f
      ∙ ap (λ xs. one ++ (t.Mark m.Comma ∷ xs)) (g
      ∙ ap (λ xs. two ++ (t.Mark m.Comma ∷ xs)) (h ∙ sym (append_assoc three (t.Mark m.Close ∷ []) rest))
      ∙ sym (append_assoc two (t.Mark m.Comma ∷ last) rest))
      ∙ sym (append_assoc one (t.Mark m.Comma ∷ (two ++ t.Mark m.Comma ∷ last)) rest))

  triangular_within : (d : ℕ) (x y z : Tree) (ts us vs ws rest : List Token) → height (Triangular x y z) ≤ 256 → ts ≡ t.Mark m.Open ∷ us →
      Closed d x m.Comma us vs → Closed d y m.Comma vs ws → Closed d z m.Close ws rest → Begins names d 0 (Triangular x y z) (t.Mark m.Triangular ∷ ts) rest
  triangular_within zero x y z ts us vs ws rest low e h i j = absurd h
  triangular_within (suc d) x y z ts us vs ws rest low e h i j = record {
    front = t.Mark m.Triangular ∷ t.Mark m.Open ∷ (h.front ++ t.Mark m.Comma ∷ (i.front ++ t.Mark m.Comma ∷ (j.front ++ t.Mark m.Close ∷ [])));
    parts = ap (λ xs. t.Mark m.Triangular ∷ xs) (three_parts ts us vs ws rest h.front i.front j.front e h.parts i.parts j.parts);
    spelled = a_triangular d x y z h.front i.front j.front low h.spelled i.spelled j.spelled;
  }

  table_only : (ts : List Token) (p : ℕ × List Token) → table_at ts ≡ Some p → ts ≡ t.Table p.0 ∷ p.1
  table_only [] p e = absurd cc
  table_only (t.Number n ∷ ts) p e = absurd cc
  table_only (t.Sign n ∷ ts) p e = absurd cc
  table_only (t.Mark n ∷ ts) p e = absurd cc
  table_only (t.Known n ∷ ts) p e = absurd cc
  table_only (t.Word n ∷ ts) p e = absurd cc
  table_only (t.Content n ∷ ts) p e = absurd cc
  table_only (t.Name n ∷ ts) p e = absurd cc
  table_only (t.Array n ∷ ts) p e = absurd cc
  table_only (t.Kind n c ∷ ts) p e = absurd cc
  table_only (t.Own n ∷ ts) p e = absurd cc
  table_only (t.Sort n ∷ ts) p e = absurd cc
  table_only (t.Table n ∷ ts) p e =
      let same : ◌≡◌ {A = ℕ × List Token} (n, ts) p = some_is (n, ts) p e in
      ap (λ (q : ℕ × List Token). t.Table q.0 ∷ q.1) same

  chosen_sound : (d : ℕ) (ts : List Token) (x : Tree) (rest : List Token) → chosen_at ts ≡ Some (x, rest) → Begins names d 0 x (t.Mark m.Choose ∷ ts) rest
  chosen_sound d ts x rest e =
      let one = bind_some (behind m.Open ts) (λ us. table_at us >>= λ p. behind m.Close p.1 >>= λ r. Some (Choose p.0, r)) (x, rest) e in
      let two = bind_some (table_at one.0) (λ p. behind m.Close p.1 >>= λ r. Some (Choose p.0, r)) (x, rest) one.2 in
      let three = bind_some (behind m.Close two.0.1) (λ r. Some (Choose two.0.0, r)) (x, rest) two.2 in
      let end = both_are (Choose two.0.0) x three.0 rest three.2 in
      let first = behind_only m.Open ts one.0 one.1 in
      let second = table_only one.0 two.0 two.1 in
      let third = behind_only m.Close two.0.1 three.0 three.1 ∙ ap (λ us. t.Mark m.Close ∷ us) end.1 in
      subst (λ z. Begins names d 0 z (t.Mark m.Choose ∷ ts) rest) end.0 (record {
        front = t.Mark m.Choose ∷ t.Mark m.Open ∷ t.Table two.0.0 ∷ t.Mark m.Close ∷ [];
        parts = ap (λ us. t.Mark m.Choose ∷ us) (first ∙ ap (λ us. t.Mark m.Open ∷ us) (second ∙ ap (λ us. t.Table two.0.0 ∷ us) third));
        spelled = a_chosen d two.0.0;
      })

  module _ (d : ℕ) (inner : ℕ → Reader)
      (sound : (k : ℕ) (ts : List Token) (x : Tree) (rest : List Token) → inner k ts ≡ Some (x, rest) → Within d k x ts rest) where
    enclosed_sound : (closing : Mark) (ts : List Token) (x : Tree) (rest : List Token) → enclosed closing (inner 9) ts ≡ Some (x, rest) → Closed d x closing ts rest
    enclosed_sound closing ts x rest e =
        let one = bind_some (inner 9 ts) (λ p. behind closing p.1 >>= λ q. Some (p.0, q)) (x, rest) e in
        let two = bind_some (behind closing one.0.1) (λ q. Some (one.0.0, q)) (x, rest) one.2 in
        let end = both_are one.0.0 x two.0 rest two.2 in
        subst (λ z. Closed d z closing ts rest) end.0
        (closed d one.0.0 closing ts one.0.1 rest (sound 9 ts one.0.0 one.0.1 one.1) (behind_only closing one.0.1 two.0 two.1 ∙ ap (λ vs. t.Mark closing ∷ vs) end.1))

    -- the parts of a pair
    record Pair (make : Tree → Tree → Tree) (ts : List Token) (z : Tree) (rest : List Token) : Type 0 where
      x : Tree
      y : Tree
      us : List Token
      vs : List Token
      low : height (make x y) ≤ 256
      opened : ts ≡ t.Mark m.Open ∷ us
      one : Closed d x m.Comma us vs
      two : Closed d y m.Close vs rest
      same : make x y ≡ z

    pair_sound : (make : Tree → Tree → Tree) (ts : List Token) (z : Tree) (rest : List Token) → pair_at make (inner 9) ts ≡ Some (z, rest) → Pair make ts z rest
    pair_sound make ts z rest e =
        let a = bind_some (behind m.Open ts) (λ us. enclosed m.Comma (inner 9) us >>= λ p. enclosed m.Close (inner 9) p.1 >>= λ q. made (make p.0 q.0) q.1) (z, rest) e in
        let b = bind_some (enclosed m.Comma (inner 9) a.0) (λ p. enclosed m.Close (inner 9) p.1 >>= λ q. made (make p.0 q.0) q.1) (z, rest) a.2 in
        let c = bind_some (enclosed m.Close (inner 9) b.0.1) (λ q. made (make b.0.0 q.0) q.1) (z, rest) b.2 in
        let put = made_only (make b.0.0 c.0.0) c.0.1 (z, rest) c.2 in
        record {
          x = b.0.0;
          y = c.0.0;
          us = a.0;
          vs = b.0.1;
          low = put.0;
          opened = behind_only m.Open ts a.0 a.1;
          one = enclosed_sound m.Comma a.0 b.0.0 b.0.1 b.1;
          two = subst (λ r. Closed d c.0.0 m.Close b.0.1 r) (ap (λ (p : Tree × List Token). p.1) put.1) (enclosed_sound m.Close b.0.1 c.0.0 c.0.1 c.1);
          same = ap (λ (p : Tree × List Token). p.0) put.1;
        }

    three_sound : (ts : List Token) (z : Tree) (rest : List Token) → three_at (inner 9) ts ≡ Some (z, rest) → Begins names d 0 z (t.Mark m.Triangular ∷ ts) rest
    three_sound ts z rest e =
        let one = bind_some (behind m.Open ts) (λ us. enclosed m.Comma (inner 9) us >>= λ p. enclosed m.Comma (inner 9) p.1 >>= λ q. enclosed m.Close (inner 9) q.1 >>= λ r. made (Triangular p.0 q.0 r.0) r.1) (z, rest) e in
        let a = bind_some (enclosed m.Comma (inner 9) one.0) (λ p. enclosed m.Comma (inner 9) p.1 >>= λ q. enclosed m.Close (inner 9) q.1 >>= λ r. made (Triangular p.0 q.0 r.0) r.1) (z, rest) one.2 in
        let b = bind_some (enclosed m.Comma (inner 9) a.0.1) (λ q. enclosed m.Close (inner 9) q.1 >>= λ r. made (Triangular a.0.0 q.0 r.0) r.1) (z, rest) a.2 in
        let c = bind_some (enclosed m.Close (inner 9) b.0.1) (λ r. made (Triangular a.0.0 b.0.0 r.0) r.1) (z, rest) b.2 in
        let put = made_only (Triangular a.0.0 b.0.0 c.0.0) c.0.1 (z, rest) c.2 in
        subst (λ (p : Tree × List Token). Begins names d 0 p.0 (t.Mark m.Triangular ∷ ts) p.1) put.1
        (triangular_within d a.0.0 b.0.0 c.0.0 ts one.0 a.0.1 b.0.1 c.0.1 put.0 (behind_only m.Open ts one.0 one.1)
        (enclosed_sound m.Comma one.0 a.0.0 a.0.1 a.1) (enclosed_sound m.Comma a.0.1 b.0.0 b.0.1 b.1) (enclosed_sound m.Close b.0.1 c.0.0 c.0.1 c.1))

    mark_sound : (mark : Mark) (ts : List Token) (x : Tree) (rest : List Token) → by_mark mark inner ts ≡ Some (x, rest) → Begins names d 0 x (t.Mark mark ∷ ts) rest
    mark_sound m.Not ts x rest e =
        let one = bind_some (inner 0 ts) (λ p. made (Not p.0) p.1) (x, rest) e in
        let put = made_only (Not one.0.0) one.0.1 (x, rest) one.2 in
        subst (λ (p : Tree × List Token). Begins names d 0 p.0 (t.Mark m.Not ∷ ts) p.1) put.1
        (not_within d one.0.0 ts one.0.1 put.0 (sound 0 ts one.0.0 one.0.1 one.1))
    mark_sound m.Open ts x rest e = brackets_within d x ts rest (enclosed_sound m.Close ts x rest e)
    mark_sound (m.Draw law) ts x rest e =
        let one = bind_some (behind m.Open ts) (λ us. enclosed m.Close (inner 9) us >>= λ p. made (Draw law p.0) p.1) (x, rest) e in
        let two = bind_some (enclosed m.Close (inner 9) one.0) (λ p. made (Draw law p.0) p.1) (x, rest) one.2 in
        let put = made_only (Draw law two.0.0) two.0.1 (x, rest) two.2 in
        subst (λ (p : Tree × List Token). Begins names d 0 p.0 (t.Mark (m.Draw law) ∷ ts) p.1) put.1
        (draw_within d law two.0.0 ts one.0 two.0.1 put.0 (behind_only m.Open ts one.0 one.1) (enclosed_sound m.Close one.0 two.0.0 two.0.1 two.1))
    mark_sound m.Min ts x rest e =
        let p = pair_sound (Two o.Least) ts x rest e in
        subst (λ z. Begins names d 0 z (t.Mark m.Min ∷ ts) rest) p.same (least_within d p.x p.y ts p.us p.vs rest p.low p.opened p.one p.two)
    mark_sound m.Max ts x rest e =
        let p = pair_sound (Two o.Greatest) ts x rest e in
        subst (λ z. Begins names d 0 z (t.Mark m.Max ∷ ts) rest) p.same (greatest_within d p.x p.y ts p.us p.vs rest p.low p.opened p.one p.two)
    mark_sound m.Normal ts x rest e =
        let p = pair_sound Normal ts x rest e in
        subst (λ z. Begins names d 0 z (t.Mark m.Normal ∷ ts) rest) p.same (normal_within d p.x p.y ts p.us p.vs rest p.low p.opened p.one p.two)
    mark_sound m.Triangular ts x rest e = three_sound ts x rest e
    mark_sound m.Choose ts x rest e = chosen_sound d ts x rest e
    mark_sound m.Is ts x rest e = absurd cc
    mark_sound m.Comma ts x rest e = absurd cc
    mark_sound m.Close ts x rest e = absurd cc
    mark_sound m.OpenIndex ts x rest e = absurd cc
    mark_sound m.CloseIndex ts x rest e = absurd cc
    mark_sound m.OpenBlock ts x rest e = absurd cc
    mark_sound m.CloseBlock ts x rest e = absurd cc
    mark_sound m.Let ts x rest e = absurd cc
    mark_sound m.Send ts x rest e = absurd cc
    mark_sound m.To ts x rest e = absurd cc
    mark_sound m.After ts x rest e = absurd cc
    mark_sound m.With ts x rest e = absurd cc
    mark_sound m.If ts x rest e = absurd cc
    mark_sound m.Else ts x rest e = absurd cc
    mark_sound m.Repeat ts x rest e = absurd cc
    mark_sound m.Kept ts x rest e = absurd cc
    mark_sound m.Count ts x rest e = absurd cc

    leaf_sound : (token : Token) (ts : List Token) (x : Tree) (rest : List Token) → and_rest (leaf names token) ts ≡ Some (x, rest) → Begins names d 0 x (token ∷ ts) rest
    leaf_sound token ts x rest e = at (leaf names token) refl e
      where
        at : (found : Option Tree) → leaf names token ≡ found → and_rest found ts ≡ Some (x, rest) → Begins names d 0 x (token ∷ ts) rest
        at None is e = absurd cc
        at (Some y) is e =
            let both = both_are y x ts rest e in
            record { front = token ∷ []; parts = ap (λ us. token ∷ us) both.1; spelled = a_leaf d x token (is ∙ ap (λ z. Some z) both.0) }

    kind_sound : (first count : ℕ) (ts : List Token) (x : Tree) (rest : List Token) → of_kind (behind m.Count ts) first count (inner 9) ts ≡ Some (x, rest) →
        Begins names d 0 x (t.Kind first count ∷ ts) rest
    kind_sound first count ts x rest e = at (behind m.Count ts) refl e
      where
        at : (o : Option (List Token)) → behind m.Count ts ≡ o → of_kind o first count (inner 9) ts ≡ Some (x, rest) → Begins names d 0 x (t.Kind first count ∷ ts) rest
        at (Some us) is e =
            let end = both_are (Number count) x us rest e in
            subst (λ z. Begins names d 0 z (t.Kind first count ∷ ts) rest) end.0 (record {
              front = t.Kind first count ∷ t.Mark m.Count ∷ [];
              parts = ap (λ vs. t.Kind first count ∷ vs) (behind_only m.Count ts us is ∙ ap (λ vs. t.Mark m.Count ∷ vs) end.1);
              spelled = a_count d first count;
            })
        at None is e =
            let one = bind_some (behind m.OpenIndex ts) (λ us. enclosed m.CloseIndex (inner 9) us >>= λ p. made (member first count p.0) p.1) (x, rest) e in
            let two = bind_some (enclosed m.CloseIndex (inner 9) one.0) (λ p. made (member first count p.0) p.1) (x, rest) one.2 in
            let put = made_only (member first count two.0.0) two.0.1 (x, rest) two.2 in
            subst (λ (p : Tree × List Token). Begins names d 0 p.0 (t.Kind first count ∷ ts) p.1) put.1
            (member_within d first count two.0.0 ts one.0 two.0.1 put.0 (behind_only m.OpenIndex ts one.0 one.1) (enclosed_sound m.CloseIndex one.0 two.0.0 two.0.1 two.1))

    primary_sound : IsSound d 0 (primary names inner)
    primary_sound [] x rest e = absurd cc
    primary_sound (t.Number n ∷ ts) x rest e = leaf_sound (t.Number n) ts x rest e
    primary_sound (t.Sign n ∷ ts) x rest e = absurd cc
    primary_sound (t.Known n ∷ ts) x rest e = leaf_sound (t.Known n) ts x rest e
    primary_sound (t.Word n ∷ ts) x rest e = leaf_sound (t.Word n) ts x rest e
    primary_sound (t.Content n ∷ ts) x rest e = leaf_sound (t.Content n) ts x rest e
    primary_sound (t.Name n ∷ ts) x rest e = leaf_sound (t.Name n) ts x rest e
    primary_sound (t.Own n ∷ ts) x rest e = leaf_sound (t.Own n) ts x rest e
    primary_sound (t.Sort n ∷ ts) x rest e = leaf_sound (t.Sort n) ts x rest e
    primary_sound (t.Kind first count ∷ ts) x rest e = kind_sound first count ts x rest e
    primary_sound (t.Mark mark ∷ ts) x rest e = mark_sound mark ts x rest e
    primary_sound (t.Table table ∷ ts) x rest e =
        let one = bind_some (behind m.OpenIndex ts) (λ us. enclosed m.CloseIndex (inner 9) us >>= λ p. made (Entry table p.0) p.1) (x, rest) e in
        let two = bind_some (enclosed m.CloseIndex (inner 9) one.0) (λ p. made (Entry table p.0) p.1) (x, rest) one.2 in
        let put = made_only (Entry table two.0.0) two.0.1 (x, rest) two.2 in
        subst (λ (p : Tree × List Token). Begins names d 0 p.0 (t.Table table ∷ ts) p.1) put.1
        (entry_within d table two.0.0 ts one.0 two.0.1 put.0 (behind_only m.OpenIndex ts one.0 one.1) (enclosed_sound m.CloseIndex one.0 two.0.0 two.0.1 two.1))
    primary_sound (t.Array array ∷ ts) x rest e =
        let one = bind_some (behind m.OpenIndex ts) (λ us. enclosed m.CloseIndex (inner 9) us >>= λ p. made (Element array p.0) p.1) (x, rest) e in
        let two = bind_some (enclosed m.CloseIndex (inner 9) one.0) (λ p. made (Element array p.0) p.1) (x, rest) one.2 in
        let put = made_only (Element array two.0.0) two.0.1 (x, rest) two.2 in
        subst (λ (p : Tree × List Token). Begins names d 0 p.0 (t.Array array ∷ ts) p.1) put.1
        (element_within d array two.0.0 ts one.0 two.0.1 put.0 (behind_only m.OpenIndex ts one.0 one.1) (enclosed_sound m.CloseIndex one.0 two.0.0 two.0.1 two.1))

    level_sound : (n k : ℕ) → IsSound d k (level names n inner k)
    level_sound n zero ts x rest e = primary_sound ts x rest e
    level_sound n (suc k) ts x rest e =
        let found = bind_some (level names n inner k ts) (λ p. chain (suc k) (level names n inner k) (turns (suc k) n) p.0 p.1) (x, rest) e in
        let first = level_sound n k ts found.0.0 found.0.1 found.1 in
        let all : Begins names d (suc k) x (first.front ++ found.0.1) rest = elim (cases_Bool (eqb (suc k) 7)) [
          | inl comparison ↦
              let seven : suc k ≡ 7 = equal_number 7 (suc k) comparison in
              compare_sound d k (level names n inner k) (level_sound n k) (omega arith) found.0.0 first.front found.0.1 first.spelled x rest
              (ap (λ b. chain (suc k) (level names n inner k) (if b then 1 else n) found.0.0 found.0.1) (sym comparison) ∙ found.2)
          | inr other ↦
              chain_sound d k (level names n inner k) (level_sound n k) (not_six k other) n found.0.0 first.front found.0.1 (tighter d k found.0.0 first.front first.spelled) x rest
              (ap (λ b. chain (suc k) (level names n inner k) (if b then 1 else n) found.0.0 found.0.1) (sym other) ∙ found.2)
        ] in
        record { front = all.front; parts = first.parts ∙ all.parts; spelled = all.spelled }

  inside_sound : (n d k : ℕ) (ts : List Token) (x : Tree) (rest : List Token) → inside names n d k ts ≡ Some (x, rest) → Within d k x ts rest
  inside_sound n zero k ts x rest e = absurd cc
  inside_sound n (suc d) k ts x rest e = level_sound d (inside names n d) (inside_sound n d) n k ts x rest e

pub value_only : (names : List ℕ) (d : ℕ) (ts : List Token) (x : Tree) (rest : List Token) → value_at names d ts ≡ Some (x, rest) → Begins names d 9 x ts rest
unfolding value_at
value_only names d ts x rest e = level_sound names d (inside names (length ts) d) (inside_sound names (length ts) d) (length ts) 9 ts x rest e
