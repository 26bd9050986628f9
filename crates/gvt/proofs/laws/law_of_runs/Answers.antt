use Rattle.gvt.proofs.Runs.{moves_made_are_sound, moves_made_join, moves_made_part, runs_are_one_simulation, runs_are_sound}
use Rattle.gvt.proofs.laws.law_of_runs.Goals as goal

pub returns-clause-sound : goal.returns-clause-sound
returns-clause-sound c = runs_are_sound

pub returns-clause-join : goal.returns-clause-join
returns-clause-join c = moves_made_join

pub returns-clause-part : goal.returns-clause-part
returns-clause-part c = moves_made_part

pub returns-clause-made : goal.returns-clause-made
returns-clause-made c = moves_made_are_sound

pub returns-clause-one : goal.returns-clause-one
returns-clause-one c = runs_are_one_simulation
