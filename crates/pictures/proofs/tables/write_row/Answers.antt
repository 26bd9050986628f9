use Rattle.std.proofs.Common.{arith, drop, flat_map, ◌+◌}
use Rattle.eventkey.proofs.Writers.{writes_broken, written_next}
use Rattle.texts.proofs.Written.{flat_map-drop}
use Rattle.pictures.specs.Tables.{right}
use Rattle.pictures.proofs.tables.write_row.Goals as goal

pub returns-in_err-write_right : goal.returns-in_err-write_right
returns-in_err-write_right g c =
    writes_broken (flat_map right (drop (c.loop-number.number-index + 1) c.args.numbers.now)) c.from_residual.result c.loop-number.invariant
    (flat_map-drop right c.args.numbers.now c.loop-number.number-index 0 (omega arith))
    (c.write_right.ensures) c.in_err-write_right.was c.from_residual.ensures.0

pub loop-number-preserved : goal.loop-number-preserved
loop-number-preserved g c =
    written_next (flat_map right (drop (c.loop-number.number-index + 1) c.args.numbers.now)) c.loop-number.invariant
    (flat_map-drop right c.args.numbers.now c.loop-number.number-index 0 (omega arith))
    (c.write_right.ensures) c.in_ok-write_right.was
