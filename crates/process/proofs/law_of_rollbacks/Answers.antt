use Rattle.process.proofs.Rollbacks.{fossils_are_final, releases_are_unseen, rollbacks_stay_above}
use Rattle.process.proofs.law_of_rollbacks.Goals as goal

pub returns-clause-above : goal.returns-clause-above
returns-clause-above c = rollbacks_stay_above

pub returns-clause-fossils : goal.returns-clause-fossils
returns-clause-fossils c = fossils_are_final

pub returns-clause-unseen : goal.returns-clause-unseen
returns-clause-unseen c = releases_are_unseen
