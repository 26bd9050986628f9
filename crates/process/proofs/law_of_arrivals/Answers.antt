use Rattle.process.proofs.Laws.{arrival_stays_consistent, arrival_is_balanced, arrival_cancels_sends, arrival_looks_ahead}
use Rattle.process.proofs.law_of_arrivals.Goals as goal

pub returns-clause-reported : goal.returns-clause-reported
returns-clause-reported c = arrival_stays_consistent

pub returns-clause-balanced : goal.returns-clause-balanced
returns-clause-balanced c = arrival_is_balanced

pub returns-clause-cancels : goal.returns-clause-cancels
returns-clause-cancels c = arrival_cancels_sends

pub returns-clause-looks_ahead : goal.returns-clause-looks_ahead
returns-clause-looks_ahead c = arrival_looks_ahead
