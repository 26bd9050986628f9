use Rattle.std.proofs.Common.{◌≡◌, false, drop}
use Rattle.node.specs.Handling.{first_fault}
use Rattle.node.specs.Roster.{node_of_roster}
use Rattle.node.proofs.roster.Roster.first_fault.Given as goal

abbrev pub invariant-loop-delivery : goal.invariant-loop-delivery
invariant-loop-delivery l = first_fault (node_of_roster false l.self) (drop l.delivery-index l.deliveries) ≡ first_fault (node_of_roster false l.self) l.deliveries
