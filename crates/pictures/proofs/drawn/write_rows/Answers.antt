use Rattle.std.proofs.Common.{arith, drop, flat_map, ◌+◌}
use Rattle.eventkey.proofs.Writers.{writes_broken, writes_end, written_next}
use Rattle.model.specs.World.{below}
use Rattle.pictures.specs.Drawing.{row_text}
use Rattle.pictures.proofs.Frames.{below-done, below-next}
use Rattle.pictures.proofs.drawn.write_rows.Goals as goal

pub returns-in_err-write_process : goal.returns-in_err-write_process
returns-in_err-write_process g c =
    let f = row_text c.args.frame.now in
    let n = c.args.frame.now.rows in
    writes_broken (flat_map f (drop (c.loop-place.place + 1) (below n))) c.from_residual.result c.loop-place.invariant (below-next f n c.loop-place.place (omega arith))
    c.write_process.ensures c.in_err-write_process.was c.from_residual.ensures.0

pub loop-place-preserved : goal.loop-place-preserved
loop-place-preserved g c =
    let f = row_text c.args.frame.now in
    let n = c.args.frame.now.rows in
    written_next (flat_map f (drop (c.loop-place.place + 1) (below n))) c.loop-place.invariant (below-next f n c.loop-place.place (omega arith))
    c.write_process.ensures c.in_ok-write_process.was

pub returns : goal.returns
returns g c = writes_end tt (below-done (row_text c.args.frame.now) c.args.frame.now.rows c.loop-place.place (omega arith)) c.loop-place.invariant
