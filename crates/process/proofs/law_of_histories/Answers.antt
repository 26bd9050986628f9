use Rattle.process.proofs.Laws.{histories_are_kept, histories_begin, reports_follow_model}
use Rattle.process.proofs.law_of_histories.Goals as goal

pub returns-clause-begin : goal.returns-clause-begin
returns-clause-begin c = histories_begin

pub returns-clause-kept : goal.returns-clause-kept
returns-clause-kept c = histories_are_kept

pub returns-clause-reported : goal.returns-clause-reported
returns-clause-reported c = reports_follow_model
