use Rattle.std.proofs.Common.{length}
use Rattle.process.proofs.Courses.{HasCancelled}
use Rattle.process.specs.Process.{reported}
use Rattle.queues.specs.Queue.{last_of}
use Rattle.process.proofs.sends.cancel_sends.Given as goal

abbrev pub invariant-loop-report : goal.invariant-loop-report
invariant-loop-report l = HasCancelled (reported (last_of l.count l.history.done) l.history.state l.history.number) l.undone l.fn.out.items l.out.items

abbrev pub decreases-loop-report : goal.decreases-loop-report
decreases-loop-report l = length l.undone
