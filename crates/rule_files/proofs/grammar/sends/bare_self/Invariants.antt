use Rattle.std.proofs.Common.{◌≡◌, ◌≤◌, drop}
use Rattle.rule_files.specs.Sends.{has_bare_self}
use Rattle.rule_files.proofs.grammar.sends.bare_self.Given as goal

abbrev pub invariant-tokens : goal.invariant-tokens
invariant-tokens l = record {
  few : l.open ≤ l.i;
  rest : has_bare_self l.open (drop l.i l.receiver) ≡ has_bare_self 0 l.receiver;
}
