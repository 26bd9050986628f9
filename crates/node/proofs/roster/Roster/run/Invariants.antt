use Rattle.std.proofs.Common.{◌≡◌, ◌-◌}
use Rattle.std.specs.List.{AllByRecursion as Every}
use Rattle.node.proofs.Runs.{HasBegun}
use Rattle.node.specs.Node.{run_here}
use Rattle.node.specs.Roster.{IsModelled, IsReady, place_of, work_of}
use Rattle.node.proofs.roster.Roster.run.Given as goal

abbrev pub invariant-loop-ran : goal.invariant-loop-ran
invariant-loop-ran g l = record {
  ready : IsReady l.self;
  modelled : Every (IsModelled (g.M.Model.meaning l.model)) l.fn.self.processes.items → Every (IsModelled (g.M.Model.meaning l.model)) l.self.processes.items;
  place : place_of l.self ≡ place_of l.fn.self;
  begun : HasBegun (g.M.Model.meaning l.model) l.fn.self.end l.fn.self.nodes l.ran (work_of l.fn.self l.fn.out.items 0) (work_of l.self l.out.items l.ran);
  work : run_here (g.M.Model.meaning l.model) l.fn.self.end l.fn.self.nodes (l.budget - l.ran) (work_of l.self l.out.items l.ran) ≡ run_here (g.M.Model.meaning l.model) l.fn.self.end l.fn.self.nodes l.budget (work_of l.fn.self l.fn.out.items 0);
}
