use Rattle.gvt.proofs.Numbers.{moves_answer}
use Rattle.gvt.proofs.Refusals.{made_or_refused}
use Rattle.gvt.proofs.Runs.{moves_are_sound}
use Rattle.gvt.proofs.laws.law_of_moves.Goals as goal

pub returns-clause-sound : goal.returns-clause-sound
returns-clause-sound c = moves_are_sound

pub returns-clause-made : goal.returns-clause-made
returns-clause-made c = made_or_refused

pub returns-clause-answers : goal.returns-clause-answers
returns-clause-answers c = moves_answer
