use Rattle.std.proofs.Common.{arith, drop, flat_map, ◌+◌}
use Rattle.eventkey.proofs.Writers.{writes_broken, written_next}
use Rattle.texts.proofs.Written.{flat_map-drop}
use Rattle.pictures.specs.Filled.{filled}
use Rattle.pictures.specs.Tables.{busy_numbers}
use Rattle.pictures.specs.declared.counted.Busy.{Busy}
use Rattle.pictures.specs.declared.tables.TheConstants.{CSV_ROW}
use Rattle.pictures.proofs.tables.write_csv_rows.Goals as goal

pub returns-in_err-write_filled : goal.returns-in_err-write_filled
returns-in_err-write_filled g c =
    let z : Busy = record { process = 0; events = 0; sends = 0 } in
    writes_broken (flat_map (λ (b : Busy). filled CSV_ROW.now (busy_numbers b)) (drop (c.loop-busy.busy-index + 1) c.args.busiest.now)) c.from_residual.result c.loop-busy.invariant
    (flat_map-drop (λ (b : Busy). filled CSV_ROW.now (busy_numbers b)) c.args.busiest.now c.loop-busy.busy-index z (omega arith))
    (rw c.from.ensures at c.write_filled.ensures) c.in_err-write_filled.was c.from_residual.ensures.0

pub loop-busy-preserved : goal.loop-busy-preserved
loop-busy-preserved g c =
    let z : Busy = record { process = 0; events = 0; sends = 0 } in
    written_next (flat_map (λ (b : Busy). filled CSV_ROW.now (busy_numbers b)) (drop (c.loop-busy.busy-index + 1) c.args.busiest.now)) c.loop-busy.invariant
    (flat_map-drop (λ (b : Busy). filled CSV_ROW.now (busy_numbers b)) c.args.busiest.now c.loop-busy.busy-index z (omega arith))
    (rw c.from.ensures at c.write_filled.ensures) c.in_ok-write_filled.was
