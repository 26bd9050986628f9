use Rattle.std.proofs.Common.{◌≡◌, ◌++◌, length}
use Rattle.process.proofs.reports.Reports.to_vec.Given as goal

abbrev pub invariant-loop-report : goal.invariant-loop-report
invariant-loop-report l = l.handlings.items ++ l.left ≡ l.self

abbrev pub decreases-loop-report : goal.decreases-loop-report
decreases-loop-report l = length l.left
