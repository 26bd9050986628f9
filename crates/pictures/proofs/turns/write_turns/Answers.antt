use Rattle.std.proofs.Common.{drop, flat_map, ◌+◌, arith}
use Rattle.eventkey.proofs.Writers.{writes_broken, writes_end, written_next}
use Rattle.texts.proofs.Written.{flat_map-drop, none_left}
use Rattle.pictures.specs.Turns.{turn_text}
use Rattle.pictures.proofs.turns.write_turns.Goals as goal

pub returns-in_err-write_turn : goal.returns-in_err-write_turn
returns-in_err-write_turn g c =
    writes_broken (flat_map turn_text (drop (c.loop-row.row-index + 1) c.args.rows.now)) c.from_residual.result c.loop-row.invariant
    (flat_map-drop turn_text c.args.rows.now c.loop-row.row-index _ (omega arith))
    c.write_turn.ensures c.in_err-write_turn.was c.from_residual.ensures.0

pub loop-row-preserved : goal.loop-row-preserved
loop-row-preserved g c =
    written_next (flat_map turn_text (drop (c.loop-row.row-index + 1) c.args.rows.now)) c.loop-row.invariant
    (flat_map-drop turn_text c.args.rows.now c.loop-row.row-index _ (omega arith))
    c.write_turn.ensures c.in_ok-write_turn.was

pub returns : goal.returns
returns g c = writes_end tt (none_left turn_text c.args.rows.now c.loop-row.row-index (omega arith)) c.loop-row.invariant
