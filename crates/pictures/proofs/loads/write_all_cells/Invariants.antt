use Rattle.std.proofs.Common.{drop, flat_map}
use Rattle.eventkey.proofs.Writers.{HasWritten}
use Rattle.model.specs.World.{below}
use Rattle.pictures.specs.Load.{cell_at, cells_text}
use Rattle.pictures.proofs.loads.write_all_cells.Given as goal

abbrev pub invariant-loop-row : goal.invariant-loop-row
invariant-loop-row g l =
    HasWritten (g.W.Write.contents l.initial.out) (g.W.Write.contents l.out) (flat_map (cells_text (cell_at l.cells) l.frame l.most) (below l.frame.rows))
    (flat_map (cells_text (cell_at l.cells) l.frame l.most) (drop l.row (below l.frame.rows)))
