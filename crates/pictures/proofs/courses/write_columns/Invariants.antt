use Rattle.std.proofs.Common.{drop, flat_map}
use Rattle.eventkey.proofs.Writers.{HasWritten}
use Rattle.model.specs.World.{below}
use Rattle.pictures.specs.Course.{column_text}
use Rattle.pictures.proofs.courses.write_columns.Given as goal

abbrev pub invariant-loop-place : goal.invariant-loop-place
invariant-loop-place g l =
    HasWritten (g.W.Write.contents l.initial.out) (g.W.Write.contents l.out) (flat_map (column_text l.rows l.window l.gvt l.most) (below l.window.columns))
    (flat_map (column_text l.rows l.window l.gvt l.most) (drop l.place (below l.window.columns)))
