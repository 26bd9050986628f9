use Rattle.std.proofs.Common.{◌∙◌}
use Rattle.process.proofs.Courses.{number_of_last, state_of_last}
use Rattle.process.proofs.history.after_all.Goals as goal

pub returns-in-Some-clause-words : goal.returns-in-Some-clause-words
returns-in-Some-clause-words c = c.after.ensures ∙ state_of_last c.args.handlings.now c.in-Some.last c.in-Some.ensures c.args.start.now.items

pub returns-in-Some-clause-number : goal.returns-in-Some-clause-number
returns-in-Some-clause-number c = c.number_after.ensures ∙ number_of_last c.args.handlings.now c.in-Some.last c.in-Some.ensures c.args.number
