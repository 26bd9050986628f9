-- The names of words of content, one after the other.
use Rattle.std.proofs.Common.{◌≡◌, ◌+◌, ℕ, List, [], ◌∷◌, ◌++◌, append_assoc, ap, sym, ◌∙◌}
use Rattle.rule_files.specs.Reading.{content_from}
use Rattle.rule_files.specs.declared.grammar.token.Token.{Token}
use Rattle.rule_files.specs.declared.grammar.token.Token.TheVariants as t

pub one_more : (i : ℕ) (name : List ℕ) (names rest : List (List ℕ)) (before after all : List (List ℕ × Token)) → names ≡ name ∷ rest
    → after ≡ before ++ (name, t.Content i) ∷ [] → before ++ content_from i names ≡ all → after ++ content_from (i + 1) rest ≡ all
one_more i name names rest before after all e added kept =
    ap (λ xs. xs ++ content_from (i + 1) rest) added ∙ append_assoc before ((name, t.Content i) ∷ []) (content_from (i + 1) rest)
    ∙ ap (λ xs. before ++ content_from i xs) (sym e) ∙ kept
