use Rattle.std.proofs.Common.{◌≡◌, ◌+◌, ◌-◌, length}
use Rattle.rule_files.specs.Lexical.{lex}
use Rattle.rule_files.proofs.Pieces.{lexemes_before}
use Rattle.rule_files.proofs.grammar.lexemes.pieces.Given as goal

abbrev pub invariant-parts : goal.invariant-parts
invariant-parts l = record {
  rest : lexemes_before l.tokens.items (lex (length l.text - l._turn) l.at l.rest) ≡ lex (length l.text) 0 l.text;
  whole : l.at + length l.rest ≡ length l.text;
}
