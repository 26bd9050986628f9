use Rattle.node.proofs.Works.{releasing_is_kept, work_is_kept}
use Rattle.node.proofs.law_of_work.Goals as goal

pub returns-clause-kept : goal.returns-clause-kept
returns-clause-kept c = work_is_kept

pub returns-clause-released : goal.returns-clause-released
returns-clause-released c = releasing_is_kept
