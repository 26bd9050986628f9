-- Splitting a text piece after piece, as a loop does.
use Rattle.std.proofs.Common.{◌≡◌, ◌<◌, ◌≤◌, ℕ, zero, suc, ◌+◌, ◌-◌, List, [], ◌∷◌, ◌++◌, Option, Some, None, length, drop, refl, sym, ap, ◌∙◌, arith, append_assoc, append-nil}
use Rattle.rule_files.specs.declared.grammar.lexemes.Lexeme.{Lexeme}
use Rattle.rule_files.specs.declared.grammar.lexemes.Placed.{Placed}
use Rattle.rule_files.specs.Lexical.{lex, piece, placed}
use Rattle.rule_files.specs.ReadingValues.{◌>>=◌}

-- what was found before, and what is still found
abbrev pub lexemes_before : List Placed → Option (List Placed) → Option (List Placed)
lexemes_before front found = found >>= λ ts. Some (front ++ ts)

regroup : (front more : List Placed) (found : Option (List Placed)) → lexemes_before (front ++ more) found ≡ lexemes_before front (found >>= λ ts. Some (more ++ ts))
regroup front more None = refl
regroup front more (Some ts) = ap (λ (us : List Placed). Some us) (append_assoc front more ts)

pub piece_more : (n t at len : ℕ) (found : Option Lexeme) (bytes : List ℕ) (front : List Placed) → t < n → piece bytes ≡ Some (found, len) →
    lexemes_before (front ++ placed found at (at + len)) (lex (n - (t + 1)) (at + len) (drop len bytes)) ≡ lexemes_before front (lex (n - t) at bytes)
piece_more n t at len found [] front below e = absurd cc
piece_more n t at len found (b ∷ bytes) front below e =
    let more : suc (n - (t + 1)) ≡ n - t = omega arith in
    regroup front (placed found at (at + len)) (lex (n - (t + 1)) (at + len) (drop len (b ∷ bytes)))
    ∙ sym (ap (λ r. lexemes_before front (r >>= λ p. lex (n - (t + 1)) (at + p.1) (drop p.1 (b ∷ bytes)) >>= λ ts. Some (placed p.0 at (at + p.1) ++ ts))) e)
    ∙ ap (λ k. lexemes_before front (lex k at (b ∷ bytes))) more

pub no_piece : (n t at : ℕ) (bytes : List ℕ) (front : List Placed) (total : Option (List Placed)) → t < n → (length bytes ≡ 0 → ⊥) → piece bytes ≡ None →
    lexemes_before front (lex (n - t) at bytes) ≡ total → total ≡ None
no_piece n t at [] front total below some e so_far = absurd (some refl)
no_piece n t at (b ∷ bytes) front total below some e so_far =
    let more : suc (n - (t + 1)) ≡ n - t = omega arith in
    sym so_far
    ∙ ap (λ k. lexemes_before front (lex k at (b ∷ bytes))) (sym more)
    ∙ ap (λ r. lexemes_before front (r >>= λ p. lex (n - (t + 1)) (at + p.1) (drop p.1 (b ∷ bytes)) >>= λ ts. Some (placed p.0 at (at + p.1) ++ ts))) e

pub none_left : (k at : ℕ) (bytes : List ℕ) (front : List Placed) (total : Option (List Placed)) → length bytes ≡ 0 →
    lexemes_before front (lex k at bytes) ≡ total → total ≡ Some front
none_left zero at bytes front total e so_far = sym so_far ∙ ap (λ (us : List Placed). Some us) (append-nil front)
none_left (suc k) at [] front total e so_far = sym so_far ∙ ap (λ (us : List Placed). Some us) (append-nil front)
none_left (suc k) at (b ∷ bytes) front total e so_far = absurd (omega arith)

pub ended : (n t at : ℕ) (bytes : List ℕ) (front : List Placed) (total : Option (List Placed)) → n ≤ t →
    lexemes_before front (lex (n - t) at bytes) ≡ total → total ≡ Some front
ended n t at bytes front total all so_far =
    let over : n - t ≡ 0 = omega arith in
    sym so_far ∙ ap (λ k. lexemes_before front (lex k at bytes)) over ∙ ap (λ (us : List Placed). Some us) (append-nil front)
