use Rattle.rule_files.proofs.ActsOfRows.{act_of_repetition_until}
use Rattle.rule_files.proofs.grammar.statements.repeated_until.Goals as goal

pub returns : goal.returns
returns c = act_of_repetition_until c.args.place c.args.count c.args.x c.args.body
