use Rattle.std.proofs.Common.{◌≡◌, set}
use Rattle.node.proofs.Tournaments.{IsReplaying}
use Rattle.node.proofs.tournament.Tournament.set.Given as goal

abbrev pub invariant-loop-cell : goal.invariant-loop-cell
invariant-loop-cell l = record {
  leaves_are : l.self-inside.leaves ≡ set l.fn.self l.fn.leaf l.fn.summary;
  replaying : IsReplaying l.self-inside.leaves l.self-inside.winners.items l.cell;
}

abbrev pub decreases-loop-cell : goal.decreases-loop-cell
decreases-loop-cell l = l.cell
