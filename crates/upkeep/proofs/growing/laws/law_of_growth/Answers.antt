use Rattle.upkeep.proofs.Staying.{genuine_stays, held_log_stays, replay_stays, representation_at_least_stays, representation_stays, representation_under_its_end_stays}
use Rattle.upkeep.proofs.growing.laws.law_of_growth.Goals as goal

pub returns-clause-representation : goal.returns-clause-representation
returns-clause-representation c = representation_stays

pub returns-clause-at_least : goal.returns-clause-at_least
returns-clause-at_least c = representation_at_least_stays

pub returns-clause-under_its_end : goal.returns-clause-under_its_end
returns-clause-under_its_end c = representation_under_its_end_stays

pub returns-clause-held : goal.returns-clause-held
returns-clause-held c = held_log_stays

pub returns-clause-replay : goal.returns-clause-replay
returns-clause-replay c = replay_stays

pub returns-clause-genuine : goal.returns-clause-genuine
returns-clause-genuine c = genuine_stays
