use Rattle.std.proofs.Common.{◌≡◌, drop}
use Rattle.rule_files.specs.Scopes.{first_place}
use Rattle.rule_files.proofs.grammar.words.first_place.Given as goal

abbrev pub invariant-all : goal.invariant-all
invariant-all l = first_place l.text l.letters (drop l.one-index l.all) ≡ first_place l.text l.letters l.all
