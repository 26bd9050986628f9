use Rattle.std.proofs.Common.{◌≡◌, drop}
use Rattle.pictures.specs.Drawing.{last_end}
use Rattle.pictures.proofs.diagrams.drawn_end.Given as goal

abbrev pub invariant-loop-event : goal.invariant-loop-event
invariant-loop-event l = last_end l.end (drop l.event-index l.events) ≡ last_end l.frame.to l.events
