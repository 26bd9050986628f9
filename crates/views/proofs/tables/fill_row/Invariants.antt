use Rattle.std.proofs.Common.{◌≡◌, map, take}
use Rattle.views.specs.Tables.{Field, field_of}
use Rattle.views.proofs.tables.fill_row.Given as goal

abbrev pub invariant-loop-place : goal.invariant-loop-place
invariant-loop-place g l = map (λ (x : Field). x.column) (map field_of l.cells.items) ≡ map (λ n. n.now) (take l.place l.names)
