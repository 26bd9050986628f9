use Rattle.std.proofs.Common.{drop, flat_map}
use Rattle.eventkey.proofs.Writers.{HasWritten}
use Rattle.model.specs.World.{below}
use Rattle.pictures.specs.Load.{cell_at, cell_text, cells_text, slices_of}
use Rattle.pictures.proofs.loads.write_cells.Given as goal

abbrev pub invariant-loop-slice : goal.invariant-loop-slice
invariant-loop-slice g l =
    HasWritten (g.W.Write.contents l.initial.out) (g.W.Write.contents l.out) (cells_text (cell_at l.cells) l.frame l.most l.row)
    (flat_map (λ s. cell_text l.frame l.most l.row s (cell_at l.cells l.row s)) (drop l.slice (below (slices_of l.frame))))
