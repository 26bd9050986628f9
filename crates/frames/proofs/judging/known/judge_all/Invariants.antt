use Rattle.std.proofs.Common.{length}
use Rattle.frames.proofs.Accepted.{IsJudgedSoFar}
use Rattle.frames.proofs.judging.known.judge_all.Given as goal

abbrev pub invariant-reports : goal.invariant-reports
invariant-reports g l = IsJudgedSoFar (g.M.Model.meaning l.model) l.every l.nodes l.initial.known.items l.reports l.left l.known.items

abbrev pub decreases-reports : goal.decreases-reports
decreases-reports g l = length l.left
