use Rattle.node.specs.Times.{AreFrom}
use Rattle.node.proofs.times.first_among.Given as goal

abbrev pub invariant-loop-place : goal.invariant-loop-place
invariant-loop-place l = AreFrom l.limit l.times l.from l.place
