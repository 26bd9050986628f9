use Rattle.node.proofs.Tournaments.{IsSeeded}
use Rattle.node.proofs.tournament.Tournament.new.Given as goal

abbrev pub invariant-loop-cell : goal.invariant-loop-cell
invariant-loop-cell l = IsSeeded l.leaves l.cell l.winners.items

abbrev pub decreases-loop-cell : goal.decreases-loop-cell
decreases-loop-cell l = l.cell
