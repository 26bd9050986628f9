use Rattle.std.proofs.Common.{◌≡◌, [], take}
use Rattle.eventkey.specs.Bag.{add_all}
use Rattle.queues.proofs.input.InputQueue.of_waiting.Given as goal

abbrev pub invariant-loop-place : goal.invariant-loop-place
invariant-loop-place l = l.waiting ≡ add_all (take l.place l.messages.items) []
