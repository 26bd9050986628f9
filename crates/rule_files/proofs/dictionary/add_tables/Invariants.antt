use Rattle.std.proofs.Common.{◌≡◌, ◌++◌, drop, map}
use Rattle.rule_files.specs.Reading.{tables_from}
use Rattle.rule_files.specs.RuleFile.{named_view}
use Rattle.rule_files.proofs.dictionary.add_tables.Given as goal

abbrev pub invariant-tables : goal.invariant-tables
invariant-tables l = (l.names.draws ≡ l.initial.names.draws) × (l.names.own ≡ l.initial.names.own) × (l.names.entries ++ tables_from l.place (map named_view (drop l.place l.more)) ≡ l.initial.names.entries ++ tables_from 0 (map named_view l.more))
