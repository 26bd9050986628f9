use Rattle.process.proofs.Laws.{handling_stays_consistent, handling_is_balanced}
use Rattle.process.proofs.law_of_handlings.Goals as goal

pub returns-clause-reported : goal.returns-clause-reported
returns-clause-reported c = handling_stays_consistent

pub returns-clause-balanced : goal.returns-clause-balanced
returns-clause-balanced c = handling_is_balanced
