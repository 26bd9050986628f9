use Rattle.std.proofs.Common.{flat_map}
use Rattle.pictures.specs.Filled.{filled}
use Rattle.pictures.specs.Tables.{busy_numbers}
use Rattle.pictures.specs.declared.counted.Busy.{Busy}
use Rattle.pictures.specs.declared.tables.TheConstants.{CSV_ROW}
use Rattle.eventkey.proofs.Writers.{writes_failed, writes_then}
use Rattle.pictures.proofs.tables.write_stats_csv.Goals as goal

pub returns-in_err-write_csv_figures : goal.returns-in_err-write_csv_figures
returns-in_err-write_csv_figures g c =
    let failed = c.from_residual.ensures.0 in
    writes_failed c.from_residual.result (flat_map (λ (b : Busy). filled CSV_ROW.now (busy_numbers b)) c.args.figures.now.busiest) c.write_csv_figures.ensures c.in_err-write_csv_figures.was failed

pub returns : goal.returns
returns g c =
    rw c.as_slice.ensures at (writes_then c.write_csv_figures.ensures c.in_ok-write_csv_figures.was c.write_csv_rows.ensures)
