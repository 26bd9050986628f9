use Rattle.std.proofs.Common.{◌≡◌, ◌++◌, drop, map}
use Rattle.rule_files.specs.Reading.{number_names}
use Rattle.rule_files.specs.RuleFile.{named_view}
use Rattle.rule_files.proofs.dictionary.add_numbers.Given as goal

abbrev pub invariant-loop-named : goal.invariant-loop-named
invariant-loop-named l = (l.names.draws ≡ l.initial.names.draws) × (l.names.own ≡ l.initial.names.own) × (l.names.entries ++ number_names (map named_view (drop l.named-index l.more)) ≡ l.initial.names.entries ++ number_names (map named_view l.more))
