use Rattle.gvt.proofs.Commits.{commit_is_by_reports, commit_is_sequential, commits_log, systems_may_commit}
use Rattle.gvt.proofs.laws.law_of_commits.Goals as goal

pub returns-clause-may : goal.returns-clause-may
returns-clause-may c = systems_may_commit

pub returns-clause-sequential : goal.returns-clause-sequential
returns-clause-sequential c = commit_is_sequential

pub returns-clause-reported : goal.returns-clause-reported
returns-clause-reported c = commits_log

pub returns-clause-by_reports : goal.returns-clause-by_reports
returns-clause-by_reports c = commit_is_by_reports
