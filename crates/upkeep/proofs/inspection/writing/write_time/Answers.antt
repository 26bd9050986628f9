use Rattle.std.specs.Prelude.{codes}
use Rattle.std.proofs.Common.{ℕ, [], ◌∷◌, ap}
use Rattle.eventkey.proofs.Writers.{writes_as}
use Rattle.upkeep.specs.Text.{line}
use Rattle.upkeep.proofs.inspection.writing.write_time.Goals as goal

pub returns : goal.returns
returns g c = writes_as c.write_line.ensures (ap (λ (n : ℕ). line ((codes "virtual time ", c.args.shown.now.time) ∷ (codes " of ", c.args.shown.now.end) ∷ (codes " ticks, ", n) ∷ []) (codes " percent\n")) c.percent-percent.ensures)
