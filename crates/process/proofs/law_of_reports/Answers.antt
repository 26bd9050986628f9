use Rattle.process.proofs.Laws.{report_is_balanced, reports_stay_consistent}
use Rattle.process.proofs.law_of_reports.Goals as goal

pub returns-clause-reported : goal.returns-clause-reported
returns-clause-reported c = reports_stay_consistent

pub returns-clause-balanced : goal.returns-clause-balanced
returns-clause-balanced c = report_is_balanced
