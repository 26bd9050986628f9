use Rattle.gvt.proofs.Judged.{judged_commit_is_sequential, judges_refuse_no_truth}
use Rattle.gvt.proofs.laws.law_of_judged_commits.Goals as goal

pub returns-clause-sequential : goal.returns-clause-sequential
returns-clause-sequential c = judged_commit_is_sequential

pub returns-clause-truth : goal.returns-clause-truth
returns-clause-truth c = judges_refuse_no_truth
