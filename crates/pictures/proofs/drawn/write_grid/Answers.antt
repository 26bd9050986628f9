use Rattle.pictures.specs.Drawing.{axes_text, rows_text}
use Rattle.eventkey.proofs.Writers.{writes_failed, writes_no_more, writes_then}
use Rattle.pictures.proofs.drawn.write_grid.Goals as goal

pub returns-in_err-write_ticks : goal.returns-in_err-write_ticks
returns-in_err-write_ticks g c =
    let failed = c.from_residual.ensures.0 in
    writes_no_more (axes_text c.args.frame.now) (writes_failed c.from_residual.result (rows_text c.args.frame.now) c.write_ticks.ensures c.in_err-write_ticks.was failed) failed

pub returns-in_err-write_rows : goal.returns-in_err-write_rows
returns-in_err-write_rows g c =
    let failed = c.from_residual-in_err-write_rows.ensures.0 in
    writes_failed c.from_residual-in_err-write_rows.result (axes_text c.args.frame.now) (writes_then c.write_ticks.ensures c.in_ok-write_ticks.was c.write_rows.ensures) c.in_err-write_rows.was failed

pub returns : goal.returns
returns g c =
    writes_then (writes_then c.write_ticks.ensures c.in_ok-write_ticks.was c.write_rows.ensures) c.in_ok-write_rows.was c.write_axes.ensures
