use Rattle.rule_files.specs.RuleFile.{number_in}
use Rattle.rule_files.proofs.Lists.{HasRead}
use Rattle.rule_files.proofs.entries.numbers_among.Given as goal

abbrev pub invariant-loop-item : goal.invariant-loop-item
invariant-loop-item l = HasRead number_in l.items l.numbers.items l.item-index
