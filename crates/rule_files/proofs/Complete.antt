-- What the tokens form is read.
use Rattle.std.proofs.Common.{◌≡◌, ◌≤◌, ℕ, zero, suc, ◌+◌, List, [], ◌∷◌, ◌++◌, Option, Some, None, length, refl, ap, ◌∙◌, arith, append_assoc, length-append, if◌then◌else◌}
use Rattle.rules.specs.declared.tree.Operator.{Operator}
use Rattle.rules.specs.declared.tree.Operator.TheVariants as o
use Rattle.rule_files.specs.declared.grammar.token.Mark.{Mark}
use Rattle.rule_files.specs.declared.grammar.token.Mark.TheVariants as m
use Rattle.rule_files.specs.declared.grammar.token.Token.{Token}
use Rattle.rule_files.specs.declared.grammar.token.Token.TheVariants as t
use Rattle.rule_files.specs.Grammar.{Tree, Not, Two, Entry, Draw, Normal, Triangular, Element, height, leaf, looseness, member, Spells, a_leaf, a_not, in_brackets, an_entry, an_element, a_member, a_count, a_draw, a_normal, a_triangular, a_chosen, the_least, the_greatest, compared, joined, tighter}
use Rattle.rule_files.specs.ReadingValues.{Reader, ◌>>=◌, and_rest, behind, chain, enclosed, go, inside, level, made, pair_at, primary, three_at, turns, value_at}
use Rattle.rule_files.proofs.Marks.{behind_is, made_is, other_number, same_number}

-- what follows is no operator that binds more tightly than k
abbrev pub Heads : ℕ → List Token → Type 0
Heads k (t.Sign o ∷ rest) = k ≤ looseness o
Heads k _ = Unit {0}

looser : (k : ℕ) (rest : List Token) → Heads (suc k) rest → Heads k rest
looser k [] h = tt
looser k (t.Number n ∷ rest) h = tt
looser k (t.Mark n ∷ rest) h = tt
looser k (t.Known n ∷ rest) h = tt
looser k (t.Word n ∷ rest) h = tt
looser k (t.Content n ∷ rest) h = tt
looser k (t.Table n ∷ rest) h = tt
looser k (t.Array n ∷ rest) h = tt
looser k (t.Name n ∷ rest) h = tt
looser k (t.Kind n c ∷ rest) h = tt
looser k (t.Own n ∷ rest) h = tt
looser k (t.Sort n ∷ rest) h = tt
looser k (t.Sign o ∷ rest) h = omega arith

turns_all : (k n : ℕ) → (k ≡ 7 → ⊥) → turns k n ≡ n
turns_all k n h = ap (λ b. if b then 1 else n) (other_number 7 k h)

-- a token that is a value
leaf_read : (names : List ℕ) (inner : ℕ → Reader) (token : Token) (x : Tree) (rest : List Token) → leaf names token ≡ Some x →
    primary names inner (token ∷ rest) ≡ Some (x, rest)
leaf_read names inner (t.Number n) x rest e = ap (λ o. and_rest o rest) e
leaf_read names inner (t.Known n) x rest e = ap (λ o. and_rest o rest) e
leaf_read names inner (t.Word n) x rest e = ap (λ o. and_rest o rest) e
leaf_read names inner (t.Content n) x rest e = ap (λ o. and_rest o rest) e
leaf_read names inner (t.Name n) x rest e = ap (λ o. and_rest o rest) e
leaf_read names inner (t.Own n) x rest e = ap (λ o. and_rest o rest) e
leaf_read names inner (t.Sort n) x rest e = ap (λ o. and_rest o rest) e
leaf_read names inner (t.Kind n c) x rest e = absurd cc
leaf_read names inner (t.Sign n) x rest e = absurd cc
leaf_read names inner (t.Mark n) x rest e = absurd cc
leaf_read names inner (t.Table n) x rest e = absurd cc
leaf_read names inner (t.Array n) x rest e = absurd cc

enclosed_is : (closing : Mark) (inner : Reader) (ts rest : List Token) (x : Tree) → inner ts ≡ Some (x, t.Mark closing ∷ rest) →
    enclosed closing inner ts ≡ Some (x, rest)
enclosed_is closing inner ts rest x read =
    ap (λ r. r >>= λ p. behind closing p.1 >>= λ q. Some (p.0, q)) read
    ∙ ap (λ r. r >>= λ q. Some (x, q)) (behind_is closing rest)

module _ (names : List ℕ) (n : ℕ) (inner : ℕ → Reader) where
  -- where the level goes on after a value
  abbrev going : ℕ → ℕ → Tree → List Token → Option (Tree × List Token)
  going zero j x rest = Some (x, rest)
  going (suc k) j x rest = chain (suc k) (level names n inner k) j x rest

  stops : (k j : ℕ) (x : Tree) (rest : List Token) → Heads (suc k) rest → going k j x rest ≡ Some (x, rest)
  stops zero j x rest h = refl
  stops (suc k) zero x rest h = refl
  stops (suc k) (suc j) x [] h = refl
  stops (suc k) (suc j) x (t.Number m ∷ rest) h = refl
  stops (suc k) (suc j) x (t.Mark m ∷ rest) h = refl
  stops (suc k) (suc j) x (t.Known m ∷ rest) h = refl
  stops (suc k) (suc j) x (t.Word m ∷ rest) h = refl
  stops (suc k) (suc j) x (t.Content m ∷ rest) h = refl
  stops (suc k) (suc j) x (t.Table m ∷ rest) h = refl
  stops (suc k) (suc j) x (t.Array m ∷ rest) h = refl
  stops (suc k) (suc j) x (t.Name m ∷ rest) h = refl
  stops (suc k) (suc j) x (t.Kind m c ∷ rest) h = refl
  stops (suc k) (suc j) x (t.Own m ∷ rest) h = refl
  stops (suc k) (suc j) x (t.Sort m ∷ rest) h = refl
  stops (suc k) (suc j) x (t.Sign o ∷ rest) h =
      ap (λ b. go (if b then Some (o, rest) else None) x (t.Sign o ∷ rest) (level names n inner k) (chain (suc k) (level names n inner k) j))
      (other_number (suc k) (looseness o) (λ e. absurd (omega arith)))

  -- one operator more
  takes : (k j : ℕ) (o : Operator) (x y : Tree) (us rest : List Token) → looseness o ≡ suc k → height (Two o x y) ≤ 256 →
      level names n inner k (us ++ rest) ≡ Some (y, rest) →
      chain (suc k) (level names n inner k) (suc j) x (t.Sign o ∷ (us ++ rest)) ≡ chain (suc k) (level names n inner k) j (Two o x y) rest
  takes k j o x y us rest loose low read =
      ap (λ b. go (if b then Some (o, us ++ rest) else None) x (t.Sign o ∷ (us ++ rest)) (level names n inner k) (chain (suc k) (level names n inner k) j))
      (same_number (suc k) (looseness o) loose)
      ∙ ap (λ r. r >>= λ q. made (Two o x q.0) q.1 >>= λ p. chain (suc k) (level names n inner k) j p.0 p.1) read
      ∙ ap (λ r. r >>= λ p. chain (suc k) (level names n inner k) j p.0 p.1) (made_is (Two o x y) rest low)

module _ (names : List ℕ) (n : ℕ) where
  record Reads (d k : ℕ) (x : Tree) (ts rest : List Token) : Type 0 where
    left : ℕ
    read : level names n (inside names n d) k (ts ++ rest) ≡ going names n (inside names n d) k left x rest
    enough : (k ≡ 7 → ⊥) → n ≤ left + length ts

  -- the same where the level stops
  whole : (d k : ℕ) (x : Tree) (ts rest : List Token) → Reads d k x ts rest → Heads (suc k) rest →
      level names n (inside names n d) k (ts ++ rest) ≡ Some (x, rest)
  whole d k x ts rest here h = here.read ∙ stops names n (inside names n d) k here.left x rest h

  takes_one : (d k : ℕ) (o : Operator) (x y : Tree) (ts us rest : List Token) → looseness o ≡ suc k → (k ≡ 6 → ⊥) → height (Two o x y) ≤ 256 →
      length (ts ++ (t.Sign o ∷ us)) ≤ n → Heads (suc k) rest →
      Reads d (suc k) x ts (t.Sign o ∷ (us ++ rest)) → Reads d k y us rest → Reads d (suc k) (Two o x y) (ts ++ (t.Sign o ∷ us)) rest
  takes_one d k o x y ts us rest loose other low fits h left_side right_side =
      at left_side.left left_side.read (left_side.enough (λ e. other (omega arith)))
    where
      at : (j : ℕ) → level names n (inside names n d) (suc k) (ts ++ (t.Sign o ∷ (us ++ rest))) ≡ going names n (inside names n d) (suc k) j x (t.Sign o ∷ (us ++ rest)) →
          n ≤ j + length ts → Reads d (suc k) (Two o x y) (ts ++ (t.Sign o ∷ us)) rest
      at zero read enough = absurd (omega (arith, length-append ts (t.Sign o ∷ us)))
      at (suc j) read enough = record {
        left = j;
        read = ap (level names n (inside names n d) (suc k)) (append_assoc ts (t.Sign o ∷ us) rest) ∙ read
            ∙ takes names n (inside names n d) k j o x y us rest loose low (whole d k y us rest right_side h);
        enough = λ _. omega (arith, length-append ts (t.Sign o ∷ us));
      }

  compares : (d : ℕ) (o : Operator) (x y : Tree) (ts us rest : List Token) → looseness o ≡ 7 → height (Two o x y) ≤ 256 → Heads 7 rest →
      Reads d 6 x ts (t.Sign o ∷ (us ++ rest)) → Reads d 6 y us rest → Reads d 7 (Two o x y) (ts ++ (t.Sign o ∷ us)) rest
  compares d o x y ts us rest loose low h left_side right_side = record {
    left = 0;
    read = ap (level names n (inside names n d) 7) (append_assoc ts (t.Sign o ∷ us) rest)
        ∙ ap (λ r. r >>= λ p. chain 7 (level names n (inside names n d) 6) 1 p.0 p.1) (whole d 6 x ts (t.Sign o ∷ (us ++ rest)) left_side (omega arith))
        ∙ takes names n (inside names n d) 6 0 o x y us rest loose low (whole d 6 y us rest right_side h);
    enough = λ no_comparison. absurd (no_comparison refl);
  }

  -- a value in brackets of some kind
  within : (d : ℕ) (closing : Mark) (x : Tree) (ts rest : List Token) → Reads d 9 x ts (t.Mark closing ∷ rest) →
      enclosed closing (inside names n (suc d) 9) ((ts ++ t.Mark closing ∷ []) ++ rest) ≡ Some (x, rest)
  within d closing x ts rest here =
      ap (enclosed closing (inside names n (suc d) 9)) (append_assoc ts (t.Mark closing ∷ []) rest)
      ∙ enclosed_is closing (inside names n (suc d) 9) (ts ++ (t.Mark closing ∷ rest)) rest x (whole d 9 x ts (t.Mark closing ∷ rest) here tt)

  pairs : (d : ℕ) (make : Tree → Tree → Tree) (x y : Tree) (ts us rest : List Token) → height (make x y) ≤ 256 →
      Reads d 9 x ts (t.Mark m.Comma ∷ ((us ++ t.Mark m.Close ∷ []) ++ rest)) → Reads d 9 y us (t.Mark m.Close ∷ rest) →
      pair_at make (inside names n (suc d) 9) (t.Mark m.Open ∷ ((ts ++ t.Mark m.Comma ∷ (us ++ t.Mark m.Close ∷ [])) ++ rest)) ≡ Some (make x y, rest)
  pairs d make x y ts us rest low one two =
      let inner = inside names n (suc d) 9 in
      ap (λ vs. enclosed m.Comma inner vs >>= λ p. enclosed m.Close inner p.1 >>= λ q. made (make p.0 q.0) q.1)
      (append_assoc ts (t.Mark m.Comma ∷ (us ++ t.Mark m.Close ∷ [])) rest)
      ∙ ap (λ r. r >>= λ p. enclosed m.Close inner p.1 >>= λ q. made (make p.0 q.0) q.1)
      (enclosed_is m.Comma inner (ts ++ (t.Mark m.Comma ∷ ((us ++ t.Mark m.Close ∷ []) ++ rest))) ((us ++ t.Mark m.Close ∷ []) ++ rest) x
      (whole d 9 x ts (t.Mark m.Comma ∷ ((us ++ t.Mark m.Close ∷ []) ++ rest)) one tt))
      ∙ ap (λ r. r >>= λ q. made (make x q.0) q.1) (within d m.Close y us rest two)
      ∙ made_is (make x y) rest low

  -- a value before a comma, and what follows
  before_comma : (d : ℕ) (x : Tree) (ts more rest : List Token) → Reads d 9 x ts (t.Mark m.Comma ∷ (more ++ rest)) →
      enclosed m.Comma (inside names n (suc d) 9) ((ts ++ t.Mark m.Comma ∷ more) ++ rest) ≡ Some (x, more ++ rest)
  before_comma d x ts more rest here =
      ap (enclosed m.Comma (inside names n (suc d) 9)) (append_assoc ts (t.Mark m.Comma ∷ more) rest)
      ∙ enclosed_is m.Comma (inside names n (suc d) 9) (ts ++ (t.Mark m.Comma ∷ (more ++ rest))) (more ++ rest) x
      (whole d 9 x ts (t.Mark m.Comma ∷ (more ++ rest)) here tt)

  threes : (d : ℕ) (x y z : Tree) (ts us vs rest : List Token) → height (Triangular x y z) ≤ 256 →
      Reads d 9 x ts (t.Mark m.Comma ∷ ((us ++ t.Mark m.Comma ∷ (vs ++ t.Mark m.Close ∷ [])) ++ rest)) →
      Reads d 9 y us (t.Mark m.Comma ∷ ((vs ++ t.Mark m.Close ∷ []) ++ rest)) → Reads d 9 z vs (t.Mark m.Close ∷ rest) →
      three_at (inside names n (suc d) 9) (t.Mark m.Open ∷ ((ts ++ t.Mark m.Comma ∷ (us ++ t.Mark m.Comma ∷ (vs ++ t.Mark m.Close ∷ []))) ++ rest))
      ≡ Some (Triangular x y z, rest)
  threes d x y z ts us vs rest low one two three =
      let inner = inside names n (suc d) 9 in
      let last = vs ++ t.Mark m.Close ∷ [] in
      ap (λ r. r >>= λ p. enclosed m.Comma inner p.1 >>= λ q. enclosed m.Close inner q.1 >>= λ r. made (Triangular p.0 q.0 r.0) r.1)
      (before_comma d x ts (us ++ t.Mark m.Comma ∷ last) rest one)
      ∙ ap (λ r. r >>= λ q. enclosed m.Close inner q.1 >>= λ r. made (Triangular x q.0 r.0) r.1) (before_comma d y us last rest two)
      ∙ ap (λ r. r >>= λ r. made (Triangular x y r.0) r.1) (within d m.Close z vs rest three)
      ∙ made_is (Triangular x y z) rest low

  complete : (d k : ℕ) (x : Tree) (ts : List Token) → Spells names d k x ts → length ts ≤ n → (rest : List Token) → Heads k rest → Reads d k x ts rest
  complete _ _ _ _ (a_leaf d x token e) fits rest h = record { left = n; read = leaf_read names (inside names n d) token x rest e; enough = λ _. omega arith }
  complete _ _ _ _ (a_not d x ts low inner) fits rest h =
      let here = complete d 0 x ts inner (omega arith) rest h in record {
        left = n;
        read = ap (λ r. r >>= λ p. made (Not p.0) p.1) here.read ∙ made_is (Not x) rest low;
        enough = λ _. omega arith;
      }
  complete _ _ _ _ (in_brackets d x ts inner) fits rest h =
      let here = complete d 9 x ts inner (omega (arith, length-append ts (t.Mark m.Close ∷ []))) (t.Mark m.Close ∷ rest) tt in record {
        left = n;
        read = within d m.Close x ts rest here;
        enough = λ _. omega arith;
      }
  complete _ _ _ _ (an_entry d table x ts low inner) fits rest h =
      let here = complete d 9 x ts inner (omega (arith, length-append ts (t.Mark m.CloseIndex ∷ []))) (t.Mark m.CloseIndex ∷ rest) tt in record {
        left = n;
        read = ap (λ r. r >>= λ p. made (Entry table p.0) p.1) (within d m.CloseIndex x ts rest here) ∙ made_is (Entry table x) rest low;
        enough = λ _. omega arith;
      }
  complete _ _ _ _ (an_element d array x ts low inner) fits rest h =
      let here = complete d 9 x ts inner (omega (arith, length-append ts (t.Mark m.CloseIndex ∷ []))) (t.Mark m.CloseIndex ∷ rest) tt in record {
        left = n;
        read = ap (λ r. r >>= λ p. made (Element array p.0) p.1) (within d m.CloseIndex x ts rest here) ∙ made_is (Element array x) rest low;
        enough = λ _. omega arith;
      }
  complete _ _ _ _ (a_member d first count x ts low inner) fits rest h =
      let here = complete d 9 x ts inner (omega (arith, length-append ts (t.Mark m.CloseIndex ∷ []))) (t.Mark m.CloseIndex ∷ rest) tt in record {
        left = n;
        read = ap (λ r. r >>= λ p. made (member first count p.0) p.1) (within d m.CloseIndex x ts rest here) ∙ made_is (member first count x) rest low;
        enough = λ _. omega arith;
      }
  complete _ _ _ _ (a_count d first count) fits rest h = record { left = n; read = refl; enough = λ _. omega arith }
  complete _ _ _ _ (a_draw d law x ts low inner) fits rest h =
      let here = complete d 9 x ts inner (omega (arith, length-append ts (t.Mark m.Close ∷ []))) (t.Mark m.Close ∷ rest) tt in record {
        left = n;
        read = ap (λ r. r >>= λ p. made (Draw law p.0) p.1) (within d m.Close x ts rest here) ∙ made_is (Draw law x) rest low;
        enough = λ _. omega arith;
      }
  complete _ _ _ _ (a_normal d x y ts us low one two) fits rest h =
      let all = length-append ts (t.Mark m.Comma ∷ (us ++ t.Mark m.Close ∷ [])) in
      let second = length-append us (t.Mark m.Close ∷ []) in record {
        left = n;
        read = pairs d Normal x y ts us rest low
            (complete d 9 x ts one (omega (arith, all, second)) (t.Mark m.Comma ∷ ((us ++ t.Mark m.Close ∷ []) ++ rest)) tt)
            (complete d 9 y us two (omega (arith, all, second)) (t.Mark m.Close ∷ rest) tt);
        enough = λ _. omega arith;
      }
  complete _ _ _ _ (a_triangular d x y z ts us vs low one two three) fits rest h =
      let last = vs ++ t.Mark m.Close ∷ [] in
      let all = length-append ts (t.Mark m.Comma ∷ (us ++ t.Mark m.Comma ∷ last)) in
      let second = length-append us (t.Mark m.Comma ∷ last) in
      let third = length-append vs (t.Mark m.Close ∷ []) in record {
        left = n;
        read = threes d x y z ts us vs rest low
            (complete d 9 x ts one (omega (arith, all, second, third)) (t.Mark m.Comma ∷ ((us ++ t.Mark m.Comma ∷ last) ++ rest)) tt)
            (complete d 9 y us two (omega (arith, all, second, third)) (t.Mark m.Comma ∷ (last ++ rest)) tt)
            (complete d 9 z vs three (omega (arith, all, second, third)) (t.Mark m.Close ∷ rest) tt);
        enough = λ _. omega arith;
      }
  complete _ _ _ _ (a_chosen d table) fits rest h = record { left = n; read = refl; enough = λ _. omega arith }
  complete _ _ _ _ (the_least d x y ts us low one two) fits rest h =
      let all = length-append ts (t.Mark m.Comma ∷ (us ++ t.Mark m.Close ∷ [])) in
      let second = length-append us (t.Mark m.Close ∷ []) in record {
        left = n;
        read = pairs d (Two o.Least) x y ts us rest low
            (complete d 9 x ts one (omega (arith, all, second)) (t.Mark m.Comma ∷ ((us ++ t.Mark m.Close ∷ []) ++ rest)) tt)
            (complete d 9 y us two (omega (arith, all, second)) (t.Mark m.Close ∷ rest) tt);
        enough = λ _. omega arith;
      }
  complete _ _ _ _ (the_greatest d x y ts us low one two) fits rest h =
      let all = length-append ts (t.Mark m.Comma ∷ (us ++ t.Mark m.Close ∷ [])) in
      let second = length-append us (t.Mark m.Close ∷ []) in record {
        left = n;
        read = pairs d (Two o.Greatest) x y ts us rest low
            (complete d 9 x ts one (omega (arith, all, second)) (t.Mark m.Comma ∷ ((us ++ t.Mark m.Close ∷ []) ++ rest)) tt)
            (complete d 9 y us two (omega (arith, all, second)) (t.Mark m.Close ∷ rest) tt);
        enough = λ _. omega arith;
      }
  complete _ _ _ _ (compared d o x y ts us loose low one two) fits rest h =
      compares d o x y ts us rest loose low h
      (complete d 6 x ts one (omega (arith, length-append ts (t.Sign o ∷ us))) (t.Sign o ∷ (us ++ rest)) (omega arith))
      (complete d 6 y us two (omega (arith, length-append ts (t.Sign o ∷ us))) rest (looser 6 rest h))
  complete _ _ _ _ (joined d k o x y ts us loose other low one two) fits rest h =
      takes_one d k o x y ts us rest loose other low fits h
      (complete d (suc k) x ts one (omega (arith, length-append ts (t.Sign o ∷ us))) (t.Sign o ∷ (us ++ rest)) (omega arith))
      (complete d k y us two (omega (arith, length-append ts (t.Sign o ∷ us))) rest (looser k rest h))
  complete _ _ _ _ (tighter d k x ts inner) fits rest h =
      let here = complete d k x ts inner fits rest (looser k rest h) in record {
        left = turns (suc k) n;
        read = ap (λ r. r >>= λ p. chain (suc k) (level names n (inside names n d) k) (turns (suc k) n) p.0 p.1) (whole d k x ts rest here h);
        enough = λ other. omega (arith, turns_all (suc k) n other);
      }

pub value_is : (names : List ℕ) (d : ℕ) (x : Tree) (ts rest : List Token) → Spells names d 9 x ts → Heads 10 rest →
    value_at names d (ts ++ rest) ≡ Some (x, rest)
unfolding value_at
value_is names d x ts rest spelled h =
    let n = length (ts ++ rest) in
    whole names n d 9 x ts rest (complete names n d 9 x ts spelled (omega (arith, length-append ts rest)) rest (looser 9 rest h)) h
