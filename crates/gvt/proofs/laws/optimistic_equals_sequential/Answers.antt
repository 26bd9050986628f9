use Rattle.gvt.proofs.Runs.{optimistic_is_sequential, schedules_agree}
use Rattle.gvt.proofs.laws.optimistic_equals_sequential.Goals as goal

pub returns-clause-sequential : goal.returns-clause-sequential
returns-clause-sequential c = optimistic_is_sequential

pub returns-clause-agree : goal.returns-clause-agree
returns-clause-agree c = schedules_agree
