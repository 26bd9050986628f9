use Rattle.std.proofs.Common.{◌≡◌, ◌+◌, drop, filter, length}
use Rattle.pictures.specs.Histograms.{count_between, is_between}
use Rattle.pictures.proofs.tallies.Tally.count_between.Given as goal

abbrev pub invariant-loop-value : goal.invariant-loop-value
invariant-loop-value l = l.count + length (filter (is_between l.from l.to) (drop l.value-index l.self.ranking.values.items)) ≡ count_between l.from l.to l.self.ranking.values.items
