use Rattle.std.proofs.Common.{◌≡◌, length, min}
use Rattle.pictures.specs.Counting.{IsCounted}
use Rattle.pictures.proofs.counted.count_events.Given as goal

abbrev pub invariant-loop-events : goal.invariant-loop-events
invariant-loop-events g l = record {
  counted : IsCounted (g.M.Model.meaning l.model) (min l.to l.fn.end) l.world.world l.counts l.events;
  end : l.world.end ≡ l.fn.end;
  lps : length l.world.world.states ≡ (g.M.Model.meaning l.model).lps;
}
