use Rattle.std.proofs.Common.{◌≡◌, drop}
use Rattle.rule_files.specs.Sends.{has_its_sort}
use Rattle.rule_files.proofs.grammar.sends.wrong_sort.Given as goal

abbrev pub invariant-tokens : goal.invariant-tokens
invariant-tokens l = has_its_sort (drop l.i l.sending) ≡ has_its_sort l.sending
