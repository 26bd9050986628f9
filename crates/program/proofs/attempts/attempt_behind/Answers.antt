use Rattle.program.proofs.Calls.{lost_attempt}
use Rattle.program.proofs.attempts.attempt_behind.Goals.{in-Ok, in-Err-Lost, in-Err}
use Rattle.program.proofs.attempts.attempt_behind.Goals as goal
use Rattle.std.proofs.Common.{refl}

pub returns-clause-tried : goal.returns-clause-tried
returns-clause-tried g c = elim c.match-meet.branch [
  | in-Ok w ↦ rw (w.tried-is, w.out-is) w.attempt_over-tried.ensures.tried
  | in-Err-Lost w ↦ rw (w.tried-is, w.out-is) (lost_attempt _ _ _ _ _ _ _ _ _ refl)
  | in-Err w ↦ rw (w.tried-is) tt
]
