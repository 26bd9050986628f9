use Rattle.std.proofs.Common.{◌≡◌, ◌<◌, ◌+◌, ◌*◌, ℕ, [], get_or, length}
use Rattle.pictures.specs.Histograms.{count_between}
use Rattle.pictures.proofs.histograms.bins_of.Given as goal

abbrev pub invariant-loop-bin : goal.invariant-loop-bin
invariant-loop-bin l = record {
  long : length l.counts.items ≡ l.bin;
  each : (k : ℕ) → k < l.bin → l.tally.ranking.counts.items ≡ [] →
      get_or l.counts.items k 0 ≡ count_between (l.least + k * l.width) (l.least + k * l.width + l.width) l.tally.ranking.values.items;
}
