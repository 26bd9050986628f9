use Rattle.std.proofs.Common.{◌≤◌, length}
use Rattle.rule_files.proofs.grammar.mending.find_more.Given as goal

abbrev pub invariant-turns : goal.invariant-turns
invariant-turns l = length l.initial.found.items ≤ length l.found.items
