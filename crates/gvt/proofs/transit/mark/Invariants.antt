use Rattle.std.proofs.Common.{take}
use Rattle.gvt.proofs.Picking.{IsPicking}
use Rattle.gvt.proofs.transit.mark.Given as goal

abbrev pub invariant-loop-pick : goal.invariant-loop-pick
invariant-loop-pick l = IsPicking l.nodes l.node l.messages l.marks (take l.pick-index l.picks)
