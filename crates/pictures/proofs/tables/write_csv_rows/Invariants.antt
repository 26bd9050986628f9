use Rattle.std.proofs.Common.{drop, flat_map}
use Rattle.eventkey.proofs.Writers.{HasWritten}
use Rattle.pictures.specs.Filled.{filled}
use Rattle.pictures.specs.Tables.{busy_numbers}
use Rattle.pictures.specs.declared.counted.Busy.{Busy}
use Rattle.pictures.specs.declared.tables.TheConstants.{CSV_ROW}
use Rattle.pictures.proofs.tables.write_csv_rows.Given as goal

abbrev pub invariant-loop-busy : goal.invariant-loop-busy
invariant-loop-busy g l =
    HasWritten (g.W.Write.contents l.initial.out) (g.W.Write.contents l.out)
    (flat_map (λ (b : Busy). filled CSV_ROW.now (busy_numbers b)) l.busiest) (flat_map (λ (b : Busy). filled CSV_ROW.now (busy_numbers b)) (drop l.busy-index l.busiest))
