use Rattle.gvt.proofs.Opened.{opening_is_sound}
use Rattle.gvt.proofs.Runs.{first_opens, fronts_open}
use Rattle.gvt.proofs.laws.law_of_openings.Goals as goal

pub returns-clause-sound : goal.returns-clause-sound
returns-clause-sound c = opening_is_sound

pub returns-clause-first : goal.returns-clause-first
returns-clause-first c = first_opens

pub returns-clause-later : goal.returns-clause-later
returns-clause-later c = fronts_open
