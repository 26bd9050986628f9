use Rattle.std.proofs.Common.{◌≡◌, ℕ, false, drop, None}
use Rattle.std.specs.List.{AllByRecursion as Every}
use Rattle.model.specs.Meaning.{Meaning}
use Rattle.node.specs.Handling.{first_fault}
use Rattle.node.specs.Node.{deliver_here}
use Rattle.node.specs.Roster.{IsModelled, IsReady, node_of_roster, place_of, work_of}
use Rattle.node.proofs.roster.Roster.deliver_all.Given as goal

abbrev pub invariant-loop-delivery : goal.invariant-loop-delivery
invariant-loop-delivery l = record {
  ready : IsReady l.self;
  modelled : (m : Meaning) → Every (IsModelled m) l.fn.self.processes.items → Every (IsModelled m) l.self.processes.items;
  place : place_of l.self ≡ place_of l.fn.self;
  accepted : first_fault (node_of_roster false l.self) (drop l.delivery-index l.deliveries) ≡ None;
  work : (ran : ℕ) → deliver_here l.fn.self.nodes (drop l.delivery-index l.deliveries) (work_of l.self l.out.items ran) ≡ deliver_here l.fn.self.nodes l.deliveries (work_of l.fn.self l.fn.out.items ran);
}
