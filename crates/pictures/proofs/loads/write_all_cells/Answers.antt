use Rattle.std.proofs.Common.{arith, drop, flat_map, ◌+◌}
use Rattle.eventkey.proofs.Writers.{writes_broken, writes_end, written_next}
use Rattle.model.specs.World.{below}
use Rattle.pictures.specs.Load.{cell_at, cells_text}
use Rattle.pictures.proofs.Frames.{below-done, below-next}
use Rattle.pictures.proofs.loads.write_all_cells.Goals as goal

pub returns-in_err-write_cells : goal.returns-in_err-write_cells
returns-in_err-write_cells g c =
    let f = cells_text (cell_at c.args.cells.now) c.args.frame.now c.args.most in
    let n = c.args.frame.now.rows in
    writes_broken (flat_map f (drop (c.loop-row.row + 1) (below n))) c.from_residual.result c.loop-row.invariant (below-next f n c.loop-row.row (omega arith))
    c.write_cells.ensures c.in_err-write_cells.was c.from_residual.ensures.0

pub loop-row-preserved : goal.loop-row-preserved
loop-row-preserved g c =
    let f = cells_text (cell_at c.args.cells.now) c.args.frame.now c.args.most in
    let n = c.args.frame.now.rows in
    written_next (flat_map f (drop (c.loop-row.row + 1) (below n))) c.loop-row.invariant (below-next f n c.loop-row.row (omega arith))
    c.write_cells.ensures c.in_ok-write_cells.was

pub returns : goal.returns
returns g c = writes_end tt (below-done (cells_text (cell_at c.args.cells.now) c.args.frame.now c.args.most) c.args.frame.now.rows c.loop-row.row (omega arith)) c.loop-row.invariant
