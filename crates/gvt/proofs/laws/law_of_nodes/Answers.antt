use Rattle.gvt.proofs.Answers.{moves_leave_nodes, takes_are_answers}
use Rattle.gvt.proofs.Opened.{opened_nodes}
use Rattle.gvt.proofs.laws.law_of_nodes.Goals as goal

pub returns-clause-opened : goal.returns-clause-opened
returns-clause-opened c = opened_nodes

pub returns-clause-answers : goal.returns-clause-answers
returns-clause-answers c = takes_are_answers

pub returns-clause-left : goal.returns-clause-left
returns-clause-left c = moves_leave_nodes
