use Rattle.pictures.proofs.Columns.{AreSet}
use Rattle.pictures.proofs.watched.set_levels.Given as goal

abbrev pub invariant-loop-place : goal.invariant-loop-place
invariant-loop-place l = AreSet l.columns l.time l.state l.initial.levels l.levels l.place
