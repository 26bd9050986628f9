use Rattle.std.proofs.Common.{arith, drop, flat_map, ◌+◌}
use Rattle.eventkey.proofs.Writers.{writes_broken, writes_end, written_next}
use Rattle.model.specs.World.{below}
use Rattle.pictures.specs.Course.{column_text}
use Rattle.pictures.proofs.Frames.{below-done, below-next}
use Rattle.pictures.proofs.courses.write_columns.Goals as goal

pub returns-in_err-write_column : goal.returns-in_err-write_column
returns-in_err-write_column g c =
    let f = column_text c.args.rows.now c.args.window.now c.args.gvt c.args.most in
    let n = c.args.window.now.columns in
    writes_broken (flat_map f (drop (c.loop-place.place + 1) (below n))) c.from_residual.result c.loop-place.invariant (below-next f n c.loop-place.place (omega arith))
    c.write_column.ensures c.in_err-write_column.was c.from_residual.ensures.0

pub loop-place-preserved : goal.loop-place-preserved
loop-place-preserved g c =
    let f = column_text c.args.rows.now c.args.window.now c.args.gvt c.args.most in
    let n = c.args.window.now.columns in
    written_next (flat_map f (drop (c.loop-place.place + 1) (below n))) c.loop-place.invariant (below-next f n c.loop-place.place (omega arith))
    c.write_column.ensures c.in_ok-write_column.was

pub returns : goal.returns
returns g c = writes_end tt (below-done (column_text c.args.rows.now c.args.window.now c.args.gvt c.args.most) c.args.window.now.columns c.loop-place.place (omega arith)) c.loop-place.invariant
