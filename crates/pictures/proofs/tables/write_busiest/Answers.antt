use Rattle.std.proofs.Common.{arith, drop, flat_map, [], ◌+◌}
use Rattle.eventkey.proofs.Writers.{writes_broken, written_next}
use Rattle.texts.proofs.Written.{flat_map-drop}
use Rattle.pictures.specs.Tables.{busy_numbers, columns_text}
use Rattle.pictures.specs.declared.counted.Busy.{Busy}
use Rattle.pictures.proofs.tables.write_busiest.Goals as goal

pub returns-in_err-write_columns : goal.returns-in_err-write_columns
returns-in_err-write_columns g c =
    let z : Busy = record { process = 0; events = 0; sends = 0 } in
    writes_broken (flat_map (λ (b : Busy). columns_text [] (busy_numbers b)) (drop (c.loop-busy.busy-index + 1) c.args.busiest.now)) c.from_residual.result c.loop-busy.invariant
    (flat_map-drop (λ (b : Busy). columns_text [] (busy_numbers b)) c.args.busiest.now c.loop-busy.busy-index z (omega arith))
    (rw c.from.ensures at c.write_columns.ensures) c.in_err-write_columns.was c.from_residual.ensures.0

pub loop-busy-preserved : goal.loop-busy-preserved
loop-busy-preserved g c =
    let z : Busy = record { process = 0; events = 0; sends = 0 } in
    written_next (flat_map (λ (b : Busy). columns_text [] (busy_numbers b)) (drop (c.loop-busy.busy-index + 1) c.args.busiest.now)) c.loop-busy.invariant
    (flat_map-drop (λ (b : Busy). columns_text [] (busy_numbers b)) c.args.busiest.now c.loop-busy.busy-index z (omega arith))
    (rw c.from.ensures at c.write_columns.ensures) c.in_ok-write_columns.was
