use Rattle.model.proofs.Steps.{opening_is_upto, runs_are_upto}
use Rattle.model.proofs.laws.law_of_runs.Goals as goal

pub returns-clause-opening : goal.returns-clause-opening
returns-clause-opening c = opening_is_upto

pub returns-clause-runs : goal.returns-clause-runs
returns-clause-runs c = runs_are_upto
