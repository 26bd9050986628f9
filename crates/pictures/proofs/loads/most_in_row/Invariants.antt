use Rattle.std.proofs.Common.{◌≡◌}
use Rattle.pictures.specs.Load.{cell_at, most_in_row}
use Rattle.pictures.proofs.loads.most_in_row.Given as goal

abbrev pub invariant-loop-slice : goal.invariant-loop-slice
invariant-loop-slice l = l.most ≡ most_in_row (cell_at l.cells l.row) l.slice
