use Rattle.std.proofs.Common.{◌≡◌, drop}
use Rattle.pictures.specs.Drawing.{step_from}
use Rattle.pictures.proofs.drawn.first_round.Given as goal

abbrev pub invariant-loop-step : goal.invariant-loop-step
invariant-loop-step l = step_from l.span (drop l.step-index l.steps) ≡ step_from l.span l.steps
