use Rattle.gvt.proofs.Sweeps.{IsSwept}
use Rattle.gvt.proofs.transit.sweep.Given as goal

abbrev pub invariant-loop-place : goal.invariant-loop-place
invariant-loop-place l = IsSwept l.initial.marks l.initial.messages l.marks l.messages l.kept l.place l.least
