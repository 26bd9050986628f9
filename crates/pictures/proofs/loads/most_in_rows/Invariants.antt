use Rattle.std.proofs.Common.{◌≡◌}
use Rattle.pictures.specs.Load.{cell_at, most_in_rows, slices_of}
use Rattle.pictures.proofs.loads.most_in_rows.Given as goal

abbrev pub invariant-loop-row : goal.invariant-loop-row
invariant-loop-row l = l.most ≡ most_in_rows (cell_at l.cells) (slices_of l.frame) l.row
