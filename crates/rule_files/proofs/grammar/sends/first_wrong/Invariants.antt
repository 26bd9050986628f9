use Rattle.std.proofs.Common.{◌≡◌, drop}
use Rattle.rule_files.specs.Sends.{are_right}
use Rattle.rule_files.proofs.grammar.sends.first_wrong.Given as goal

abbrev pub invariant-tokens : goal.invariant-tokens
invariant-tokens l = are_right l.sorted (drop l.i l.tokens) ≡ are_right l.sorted l.tokens
