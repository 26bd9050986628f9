use Rattle.std.proofs.Common.{◌≤◌, drop}
use Rattle.std.specs.List.{AllByRecursion as Every}
use Rattle.eventkey.specs.Message.{Message}
use Rattle.node.specs.declared.Part.{Part}
use Rattle.node.proofs.node.are_all_from.Given as goal

abbrev pub invariant-loop-part : goal.invariant-loop-part
invariant-loop-part l = Every (λ (p : Part). Every (λ (x : Message). l.floor ≤ x.time) p.pending) (drop l.part-index l.parts) → Every (λ (p : Part). Every (λ (x : Message). l.floor ≤ x.time) p.pending) l.parts
