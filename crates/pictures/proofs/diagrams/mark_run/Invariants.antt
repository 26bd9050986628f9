use Rattle.std.proofs.Common.{◌≡◌, length, min}
use Rattle.pictures.specs.Marking.{IsMarked}
use Rattle.pictures.proofs.diagrams.mark_run.Given as goal

abbrev pub invariant-loop : goal.invariant-loop
invariant-loop g l = record {
  marked : IsMarked (g.M.Model.meaning l.model) (min l.to l.fn.end) l.world.world l.frame l.senders.items l.marks;
  end : l.world.end ≡ l.fn.end;
  lps : length l.world.world.states ≡ (g.M.Model.meaning l.model).lps;
}
