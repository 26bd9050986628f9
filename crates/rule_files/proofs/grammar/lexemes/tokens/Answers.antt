use Rattle.std.proofs.Common.{rules}
use Rattle.rule_files.specs.Lexical.{lexemes_at}
use Rattle.rule_files.specs.ReadingValues.{Gives}
use Rattle.rule_files.proofs.Whole.{split_found, split_whole}
use Rattle.rule_files.proofs.grammar.lexemes.tokens.Goals as goal

pub returns-clause-found : goal.returns-clause-found
returns-clause-found c =
    let e : Gives (λ v. v.items) c.pieces.result (lexemes_at c.args.text.now) = search rules in
    split_found (λ v. v.items) c.pieces.result c.args.text.now e

pub returns-clause-only : goal.returns-clause-only
returns-clause-only c = λ ts splits.
    let e : Gives (λ v. v.items) c.pieces.result (lexemes_at c.args.text.now) = search rules in
    split_whole (λ v. v.items) c.pieces.result c.args.text.now ts e splits
