use Rattle.std.proofs.Common.{◌≡◌, drop}
use Rattle.rule_files.specs.Grammar.{place_from}
use Rattle.rule_files.proofs.grammar.values.place.Given as goal

abbrev pub invariant-names : goal.invariant-names
invariant-names l = record {
  counted : l.place ≡ l.other-index;
  rest : place_from l.place l.name (drop l.other-index l.names) ≡ place_from 0 l.name l.names;
}
