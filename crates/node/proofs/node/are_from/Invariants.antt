use Rattle.std.proofs.Common.{◌≤◌, drop}
use Rattle.std.specs.List.{AllByRecursion as Every}
use Rattle.eventkey.specs.Message.{Message}
use Rattle.node.proofs.node.are_from.Given as goal

abbrev pub invariant-loop-message : goal.invariant-loop-message
invariant-loop-message l = Every (λ (x : Message). l.floor ≤ x.time) (drop l.message-index l.pending) → Every (λ (x : Message). l.floor ≤ x.time) l.pending
