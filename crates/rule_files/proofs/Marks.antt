-- What a step of reading gives, and what gave it.
use Rattle.std.proofs.Common.{◌≡◌, ◌≤◌, ℕ, suc, List, [], ◌∷◌, Option, Some, None, true, false, eqb, ltb, refl, sym, ap, ◌∙◌, arith, if◌then◌else◌, inl, inr}
use Rattle.std.proofs.lemmas.Bool.{cases_Bool}
use Rattle.std.proofs.lemmas.Bool.Decides.{nat_tests}
use Rattle.rules.specs.declared.tree.Law.TheVariants as l
use Rattle.rule_files.specs.declared.grammar.token.Mark.{Mark}
use Rattle.rule_files.specs.declared.grammar.token.Mark.TheVariants as m
use Rattle.rule_files.specs.declared.grammar.token.Token.{Token}
use Rattle.rule_files.specs.declared.grammar.token.Token.TheVariants as t
use Rattle.rule_files.specs.Grammar.{Tree, code, height}
use Rattle.rule_files.specs.ReadingValues.{behind, made}

-- a mark by its number
abbrev mark_of : ℕ → Mark
mark_of n =
    if eqb n 0 then m.Not else
    if eqb n 1 then m.Is else
    if eqb n 2 then m.Comma else
    if eqb n 3 then m.Open else
    if eqb n 4 then m.Close else
    if eqb n 5 then m.OpenIndex else
    if eqb n 6 then m.CloseIndex else
    if eqb n 7 then m.OpenBlock else
    if eqb n 8 then m.CloseBlock else
    if eqb n 9 then m.Let else
    if eqb n 10 then m.Send else
    if eqb n 11 then m.To else
    if eqb n 12 then m.After else
    if eqb n 13 then m.With else
    if eqb n 14 then m.If else
    if eqb n 15 then m.Else else
    if eqb n 16 then m.Repeat else
    if eqb n 17 then m.Min else
    if eqb n 18 then m.Max else
    if eqb n 19 then m.Draw l.Uniform else
    if eqb n 21 then m.Draw l.Exponential else
    if eqb n 22 then m.Draw l.Geometric else
    if eqb n 23 then m.Normal else
    if eqb n 24 then m.Triangular else
    if eqb n 25 then m.Choose else
    if eqb n 26 then m.Count else
    m.Kept

mark_back : (k : Mark) → mark_of (code k) ≡ k
mark_back m.Not = refl
mark_back m.Is = refl
mark_back m.Comma = refl
mark_back m.Open = refl
mark_back m.Close = refl
mark_back m.OpenIndex = refl
mark_back m.CloseIndex = refl
mark_back m.OpenBlock = refl
mark_back m.CloseBlock = refl
mark_back m.Let = refl
mark_back m.Send = refl
mark_back m.To = refl
mark_back m.After = refl
mark_back m.With = refl
mark_back m.If = refl
mark_back m.Else = refl
mark_back m.Repeat = refl
mark_back m.Min = refl
mark_back m.Max = refl
mark_back (m.Draw l.Uniform) = refl
mark_back (m.Draw l.Exponential) = refl
mark_back (m.Draw l.Geometric) = refl
mark_back m.Normal = refl
mark_back m.Triangular = refl
mark_back m.Choose = refl
mark_back m.Count = refl
mark_back m.Kept = refl

pub equal_number : (k n : ℕ) → eqb n k ≡ true → n ≡ k
equal_number k n h = grind (arith, nat_tests)

pub not_six : (k : ℕ) → eqb (suc k) 7 ≡ false → (k ≡ 6 → ⊥)
not_six k h = λ six. absurd (grind (arith, nat_tests))

pub same_number : (k n : ℕ) → n ≡ k → eqb n k ≡ true
same_number k n h = grind (arith, nat_tests)

pub other_number : (k n : ℕ) → (n ≡ k → ⊥) → eqb n k ≡ false
other_number k n h = grind (arith, nat_tests)

pub some_is : {A : Type 0} (x y : A) → ◌≡◌ {A = Option A} (Some x) (Some y) → x ≡ y
some_is x y e = cc

pub behind_is : (k : Mark) (rest : List Token) → behind k (t.Mark k ∷ rest) ≡ Some rest
behind_is k rest = ap (λ b. if b then Some rest else None) (same_number (code k) (code k) refl)

pub behind_only : (k : Mark) (ts rest : List Token) → behind k ts ≡ Some rest → ts ≡ t.Mark k ∷ rest
behind_only k [] rest e = cc
behind_only k (t.Number n ∷ ts) rest e = cc
behind_only k (t.Sign o ∷ ts) rest e = cc
behind_only k (t.Known n ∷ ts) rest e = cc
behind_only k (t.Word n ∷ ts) rest e = cc
behind_only k (t.Content n ∷ ts) rest e = cc
behind_only k (t.Table n ∷ ts) rest e = cc
behind_only k (t.Array n ∷ ts) rest e = cc
behind_only k (t.Name n ∷ ts) rest e = cc
behind_only k (t.Kind n c ∷ ts) rest e = cc
behind_only k (t.Own n ∷ ts) rest e = cc
behind_only k (t.Sort n ∷ ts) rest e = cc
behind_only k (t.Mark j ∷ ts) rest e = elim (cases_Bool (eqb (code j) (code k))) [
  | inl same ↦
      let here : ◌≡◌ {A = Option (List Token)} (Some ts) (Some rest) = ap (λ b. if b then Some ts else None) (sym same) ∙ e in
      let mark : j ≡ k = sym (mark_back j) ∙ ap mark_of (equal_number (code k) (code j) same) ∙ mark_back k in
      ap (λ i. t.Mark i ∷ ts) mark ∙ ap (λ us. t.Mark k ∷ us) (some_is ts rest here)
  | inr differs ↦
      let here : ◌≡◌ {A = Option (List Token)} None (Some rest) = ap (λ b. if b then Some ts else None) (sym differs) ∙ e in
      absurd cc
]

above : (n : ℕ) → n ≤ 256 → ltb 256 n ≡ false
above n h = grind (arith, nat_tests)

not_above : (n : ℕ) → ltb 256 n ≡ false → n ≤ 256
not_above n h = grind (arith, nat_tests)

pub made_is : (x : Tree) (rest : List Token) → height x ≤ 256 → made x rest ≡ Some (x, rest)
made_is x rest low = ap (λ b. if b then None else Some (x, rest)) (above (height x) low)

pub made_only : (x : Tree) (rest : List Token) (p : Tree × List Token) → made x rest ≡ Some p → (height x ≤ 256) × (◌≡◌ {A = Tree × List Token} (x, rest) p)
made_only x rest p e = elim (cases_Bool (ltb 256 (height x))) [
  | inl high ↦
      let here : ◌≡◌ {A = Option (Tree × List Token)} None (Some p) = ap (λ b. if b then None else Some (x, rest)) (sym high) ∙ e in
      absurd cc
  | inr low ↦
      let here : ◌≡◌ {A = Option (Tree × List Token)} (Some (x, rest)) (Some p) = ap (λ b. if b then None else Some (x, rest)) (sym low) ∙ e in
      (not_above (height x) low, some_is (x, rest) p here)
]
