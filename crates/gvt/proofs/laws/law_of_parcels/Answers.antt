use Rattle.gvt.proofs.Refusals.{parcels_are_accepted}
use Rattle.gvt.proofs.Replies.{replies_name_what_is_there}
use Rattle.gvt.proofs.laws.law_of_parcels.Goals as goal

pub returns-clause-accepted : goal.returns-clause-accepted
returns-clause-accepted c = parcels_are_accepted

pub returns-clause-there : goal.returns-clause-there
returns-clause-there c = replies_name_what_is_there
