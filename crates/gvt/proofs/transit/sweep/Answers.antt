use Rattle.std.proofs.Common.{Some, ap, ◌∙◌}
use Rattle.node.specs.Node.{earliest}
use Rattle.gvt.proofs.Sweeps.{swept-marked, swept-unmarked}
use Rattle.gvt.specs.Picks.{nothing}
use Rattle.gvt.proofs.transit.sweep.Goals.{then-marks-place, else-marks-place}
use Rattle.gvt.proofs.transit.sweep.Goals as goal

pub loop-place-preserved : goal.loop-place-preserved
loop-place-preserved c = elim c.if-marks-place.branch [
  | then-marks-place w ↦ rw (w.messages-is, w.marks-is, w.kept-is, w.least-is) (swept-marked c.loop-place.invariant c.loop-place-test.true c.requires nothing w.if-marks-place.true)
  | else-marks-place w ↦
      rw (w.messages-is, w.marks-is, w.kept-is, w.least-is)
      (swept-unmarked c.loop-place.invariant c.loop-place-test.true c.requires w.index-messages-place.result w.lesser-least.result w.if-marks-place.false w.index-messages-place.is
      (w.lesser-least.ensures ∙ ap (λ t. earliest c.loop-place.least (Some t)) w.time.ensures))
]
