use Rattle.model.proofs.Continuations.{continuation_begins, continuation_is_all, continuation_is_lawful, continuation_is_part, continuations_join, events_are_counted}
use Rattle.model.proofs.laws.law_of_continuations.Goals as goal

pub returns-clause-part : goal.returns-clause-part
returns-clause-part c = continuation_is_part

pub returns-clause-all : goal.returns-clause-all
returns-clause-all c = continuation_is_all

pub returns-clause-begins : goal.returns-clause-begins
returns-clause-begins c = continuation_begins

pub returns-clause-lawful : goal.returns-clause-lawful
returns-clause-lawful c = continuation_is_lawful

pub returns-clause-join : goal.returns-clause-join
returns-clause-join c = continuations_join

pub returns-clause-counted : goal.returns-clause-counted
returns-clause-counted c = events_are_counted
