use Rattle.rule_files.proofs.Choice.{runs_its_kind}
use Rattle.rule_files.proofs.chosen.law_of_kinds.Goals as goal

pub returns : goal.returns
returns c = runs_its_kind
