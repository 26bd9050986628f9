use Rattle.std.proofs.Common.{◌≡◌, List, length, min}
use Rattle.eventkey.specs.Message.{Message}
use Rattle.model.specs.Runner.{IsRun}
use Rattle.model.specs.World.{opening}
use Rattle.pictures.specs.Load.{AreCells}
use Rattle.pictures.specs.Stepping.{with_log}
use Rattle.pictures.proofs.loads.count_cells.Given as goal

abbrev pub invariant-loop : goal.invariant-loop
invariant-loop g l =
    let m = g.M.Model.meaning l.model in
    record {
      counted : (events : List Message) × IsRun m (min l.to l.fn.end) (opening m) (with_log events l.world.world) × AreCells l.frame events l.cells.items;
      end : l.world.end ≡ l.fn.end;
      lps : length l.world.world.states ≡ m.lps;
    }
