use Rattle.rule_files.proofs.ActsOfRows.{act_of_repetition}
use Rattle.rule_files.proofs.grammar.statements.repeated.Goals as goal

pub returns : goal.returns
returns c = act_of_repetition c.args.place c.args.count c.args.body
