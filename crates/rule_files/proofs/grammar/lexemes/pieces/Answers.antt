use Rattle.std.proofs.Common.{◌≡◌, ◌++◌, ◌+◌, Some, None, length, drop, rules, arith, ◌∙◌}
use Rattle.std.proofs.lemmas.Bool.Decides.{nat_tests}
use Rattle.rule_files.specs.Lexical.{lexemes_at, piece, placed}
use Rattle.rule_files.proofs.Pieces.{ended, none_left, no_piece, piece_more}
use Rattle.rule_files.proofs.grammar.lexemes.pieces.Goals as goal

pub returns-then-is_empty : goal.returns-then-is_empty
unfolding lexemes_at
returns-then-is_empty c =
    let empty : length c.parts.rest.now ≡ 0 = grind (arith, nat_tests) in
    none_left _ _ _ _ _ empty c.parts.invariant.rest

pub returns-in_default : goal.returns-in_default
unfolding lexemes_at
returns-in_default c =
    let some_left : length c.parts.rest.now ≡ 0 → ⊥ = (λ z. let test = c.if-is_empty.ensures in grind (arith, nat_tests)) in
    let none : piece c.parts.rest.now ≡ None = search rules in
    no_piece _ c.parts._turn _ _ _ _ c.parts-test.true some_left none c.parts.invariant.rest

pub parts-preserved : goal.parts-preserved
parts-preserved c =
    let found : piece c.parts.rest.now ≡ Some (c.in-Some.found, c.in-Some.length) = search rules in
    let added : c.add_found.new.tokens.items ≡ c.parts.tokens.items ++ placed c.in-Some.found c.parts.at (c.parts.at + c.in-Some.length) = search rules in
    let left : c.split_at.result.1.now ≡ drop c.in-Some.length c.parts.rest.now = search rules in
    record {
      rest = rw (added, left) (piece_more _ c.parts._turn _ _ _ _ _ c.parts-test.true found ∙ c.parts.invariant.rest);
      whole = search rules;
    }

pub returns : goal.returns
unfolding lexemes_at
returns c = ended _ c.parts._turn _ _ _ _ c.parts-test.false c.parts.invariant.rest
