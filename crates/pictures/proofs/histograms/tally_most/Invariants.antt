use Rattle.std.proofs.Common.{◌≡◌, length, min}
use Rattle.pictures.specs.Histograms.{HasTallied}
use Rattle.pictures.proofs.histograms.tally_most.Given as goal

abbrev pub invariant-loop : goal.invariant-loop
invariant-loop g l = record {
  tallied : HasTallied (g.M.Model.meaning l.model) (min l.to l.fn.end) l.word l.world.world l.tally;
  end : l.world.end ≡ l.fn.end;
  lps : length l.world.world.states ≡ (g.M.Model.meaning l.model).lps;
}
