use Rattle.std.proofs.Common.{◌≡◌, drop}
use Rattle.rule_files.specs.Scopes.{entries_of, lookup}
use Rattle.rule_files.proofs.grammar.scope.find.Given as goal

abbrev pub invariant-entries : goal.invariant-entries
invariant-entries l = lookup l.name (entries_of (drop l.entry-index l.entries)) ≡ lookup l.name (entries_of l.entries)
