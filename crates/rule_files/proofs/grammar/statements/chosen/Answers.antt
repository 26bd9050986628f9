use Rattle.rule_files.proofs.ActsOfRows.{act_of_choice}
use Rattle.rule_files.proofs.grammar.statements.chosen.Goals as goal

pub returns : goal.returns
returns c = act_of_choice c.args.x c.args.met c.args.unmet
