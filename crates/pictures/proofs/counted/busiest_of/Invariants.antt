use Rattle.std.proofs.Common.{◌≡◌, length, map, take}
use Rattle.model.specs.World.{below}
use Rattle.pictures.specs.Figures.{handled_by, ranked, sent_by}
use Rattle.pictures.specs.Run.{Run}
use Rattle.pictures.proofs.counted.busiest_of.Given as goal

abbrev pub invariant-loop-place : goal.invariant-loop-place
invariant-loop-place l = (r : Run) → l.handled ≡ map (handled_by r) (below (length l.handled)) → l.sent ≡ map (sent_by r) (below (length l.handled)) → l.busiest.items ≡ take 10 (ranked r l.place)
