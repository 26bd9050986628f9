use Rattle.std.proofs.Common.{◌≡◌, ◌-◌, drop}
use Rattle.eventkey.specs.Bag.{add_all}
use Rattle.queues.proofs.done.wait_again.Given as goal

abbrev pub invariant-loop-again : goal.invariant-loop-again
invariant-loop-again l = l.waiting ≡ add_all (drop (l.all - l.again) l.done.items) l.fn.waiting
