use Rattle.std.proofs.Common.{◌≤◌, length}
use Rattle.rule_files.proofs.grammar.mending.add_sends.Given as goal

abbrev pub invariant-tokens : goal.invariant-tokens
invariant-tokens l = length l.initial.found.items ≤ length l.found.items
