use Rattle.std.proofs.Common.{◌≡◌, ◌++◌, drop, map}
use Rattle.rule_files.specs.Reading.{sorts_from}
use Rattle.rule_files.specs.RuleFile.{sort_view}
use Rattle.rule_files.proofs.dictionary.add_sorts.Given as goal

abbrev pub invariant-sorts : goal.invariant-sorts
invariant-sorts l = (l.names.draws ≡ l.initial.names.draws) × (l.names.own ≡ l.initial.names.own) × (l.names.entries ++ sorts_from l.number (map sort_view (drop l.number l.more)) ≡ l.initial.names.entries ++ sorts_from 0 (map sort_view l.more))
