use Rattle.std.proofs.Common.{◌≡◌, drop}
use Rattle.rule_files.specs.Scopes.{any_sort, entries_of}
use Rattle.rule_files.proofs.grammar.scope.any_sort.Given as goal

abbrev pub invariant-entries : goal.invariant-entries
invariant-entries l = any_sort (entries_of (drop l.entry-index l.entries)) ≡ any_sort (entries_of l.entries)
