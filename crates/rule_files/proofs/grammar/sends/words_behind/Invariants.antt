use Rattle.std.proofs.Common.{◌≡◌, ◌≤◌, ◌+◌, drop}
use Rattle.rule_files.specs.Sends.{words_from}
use Rattle.rule_files.proofs.grammar.sends.words_behind.Given as goal

abbrev pub invariant-tokens : goal.invariant-tokens
invariant-tokens l = record {
  brackets : l.open ≤ l.token-index;
  few : l.words ≤ l.token-index;
  rest : l.words + words_from l.open (drop l.token-index l.content) ≡ words_from 0 l.content;
}
