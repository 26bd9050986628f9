use Rattle.std.proofs.Common.{take}
use Rattle.pictures.specs.Tallies.{AreCounts}
use Rattle.pictures.proofs.tallies.counts_of.Given as goal

abbrev pub invariant-loop-value : goal.invariant-loop-value
invariant-loop-value l = AreCounts (take l.value-index l.values) l.counts.items
