use Rattle.frames.proofs.Hellos.{hellos_are_canonical, hellos_are_read_back}
use Rattle.frames.proofs.laws.law_of_hellos.Goals as goal

pub returns-clause-again : goal.returns-clause-again
returns-clause-again c = hellos_are_read_back

pub returns-clause-encoded : goal.returns-clause-encoded
returns-clause-encoded c = hellos_are_canonical
