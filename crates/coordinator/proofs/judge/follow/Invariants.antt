use Rattle.coordinator.proofs.Judges.{IsFollowed}
use Rattle.coordinator.specs.Judging.{shown}
use Rattle.coordinator.proofs.judge.follow.Given as goal

abbrev pub invariant-reports : goal.invariant-reports
invariant-reports g l = IsFollowed (g.M.Model.meaning l.model) l.time l.gathered (shown l.front) l.done-index l.latest.items
