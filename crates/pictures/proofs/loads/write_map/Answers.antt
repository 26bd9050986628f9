use Rattle.std.proofs.Common.{flat_map}
use Rattle.model.specs.World.{below}
use Rattle.pictures.specs.Drawing.{grid_text}
use Rattle.pictures.specs.Load.{cell_at, cells_text}
use Rattle.pictures.specs.declared.drawn.TheConstants.{STYLE, TAIL}
use Rattle.eventkey.proofs.Writers.{writes_failed, writes_no_more, writes_then}
use Rattle.pictures.proofs.loads.write_map.Goals as goal

pub returns-in_err-write_head : goal.returns-in_err-write_head
returns-in_err-write_head g c =
    let failed = c.from_residual.ensures.0 in
    writes_no_more (TAIL.now) (writes_no_more (flat_map (cells_text (cell_at c.args.cells.now) c.args.frame.now c.args.most) (below c.args.frame.now.rows)) (writes_no_more (grid_text c.args.frame.now) (writes_failed c.from_residual.result (STYLE.now) c.write_head.ensures c.in_err-write_head.was failed) failed) failed) failed

pub returns-in_err-write_text : goal.returns-in_err-write_text
returns-in_err-write_text g c =
    let failed = c.from_residual-in_err-write_text.ensures.0 in
    writes_no_more (TAIL.now) (writes_no_more (flat_map (cells_text (cell_at c.args.cells.now) c.args.frame.now c.args.most) (below c.args.frame.now.rows)) (writes_failed c.from_residual-in_err-write_text.result (grid_text c.args.frame.now) (writes_then c.write_head.ensures c.in_ok-write_head.was c.write_text.ensures) c.in_err-write_text.was failed) failed) failed

pub returns-in_err-write_grid : goal.returns-in_err-write_grid
returns-in_err-write_grid g c =
    let failed = c.from_residual-in_err-write_grid.ensures.0 in
    writes_no_more (TAIL.now) (writes_failed c.from_residual-in_err-write_grid.result (flat_map (cells_text (cell_at c.args.cells.now) c.args.frame.now c.args.most) (below c.args.frame.now.rows)) (writes_then (writes_then c.write_head.ensures c.in_ok-write_head.was c.write_text.ensures) c.in_ok-write_text.was c.write_grid.ensures) c.in_err-write_grid.was failed) failed

pub returns-in_err-write_all_cells : goal.returns-in_err-write_all_cells
returns-in_err-write_all_cells g c =
    let failed = c.from_residual-in_err-write_all_cells.ensures.0 in
    writes_failed c.from_residual-in_err-write_all_cells.result (TAIL.now) (writes_then (writes_then (writes_then c.write_head.ensures c.in_ok-write_head.was c.write_text.ensures) c.in_ok-write_text.was c.write_grid.ensures) c.in_ok-write_grid.was c.write_all_cells.ensures) c.in_err-write_all_cells.was failed

pub returns : goal.returns
returns g c =
    writes_then (writes_then (writes_then (writes_then c.write_head.ensures c.in_ok-write_head.was c.write_text.ensures) c.in_ok-write_text.was c.write_grid.ensures) c.in_ok-write_grid.was c.write_all_cells.ensures) c.in_ok-write_all_cells.was c.write_text-2.ensures
