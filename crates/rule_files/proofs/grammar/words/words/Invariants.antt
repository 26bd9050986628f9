use Rattle.std.proofs.Common.{◌≡◌, map, take}
use Rattle.rule_files.specs.Scopes.{token_of}
use Rattle.rule_files.proofs.grammar.words.words.Given as goal

abbrev pub invariant-all : goal.invariant-all
invariant-all l = l.tokens.items ≡ map (token_of l.scope l.text l.all) (take l.one-index l.all)
