use Rattle.std.proofs.Common.{drop, flat_map}
use Rattle.eventkey.proofs.Writers.{HasWritten}
use Rattle.model.specs.World.{below}
use Rattle.pictures.specs.Drawing.{row_text, rows_text}
use Rattle.pictures.proofs.drawn.write_rows.Given as goal

abbrev pub invariant-loop-place : goal.invariant-loop-place
invariant-loop-place g l =
    HasWritten (g.W.Write.contents l.initial.out) (g.W.Write.contents l.out) (rows_text l.frame) (flat_map (row_text l.frame) (drop l.place (below l.frame.rows)))
