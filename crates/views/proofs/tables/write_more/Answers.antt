use Rattle.std.proofs.Common.{◌≡◌, map}
use Rattle.views.specs.Tables.{Field, field_of}
use Rattle.views.proofs.Printed.{on_any}
use Rattle.views.proofs.Tabled.{begun_then, none_added, row_added, row_begun, rows_kept, rows_then}
use Rattle.views.proofs.tables.write_more.Goals.{then-has+in_ok-fill_row+in_ok-write_row, else-has}
use Rattle.views.proofs.tables.write_more.Goals as goal

pub loop-row-init : goal.loop-row-init
loop-row-init g c = none_added c.args.format _ c.args.starts _

pub returns-in_err-fill_row-clause-err : goal.returns-in_err-fill_row-clause-err
returns-in_err-fill_row-clause-err g c = on_any _ (rows_kept c.args.format _ c.args.starts _ _ _ c.loop-row.invariant)

pub returns-in_err-write_row-clause-err : goal.returns-in_err-write_row-clause-err
returns-in_err-write_row-clause-err g c =
    let row = map field_of c.as_slice.result.now in
    let under : map (λ (x : Field). x.column) row ≡ map (λ n. n.now) c.args.names.now = rw c.as_slice.ensures.value c.in_ok-fill_row.ensures in
    on_any _ (begun_then c.args.format _ c.args.starts _ _ _ _ c.loop-row.invariant (row_begun c.args.format _ c.loop-row.is_first _ _ row under c.in_err-write_row.ensures.part))

pub loop-row-preserved : goal.loop-row-preserved
loop-row-preserved g c =
    elim c.if-has.branch [
      | then-has+in_ok-fill_row+in_ok-write_row w ↦
          let row = map field_of w.as_slice.result.now in
          let under : map (λ (x : Field). x.column) row ≡ map (λ n. n.now) c.args.names.now = rw w.as_slice.ensures.value w.in_ok-fill_row.ensures in
          rw (w.out-is, w.is_first-is) (rows_then c.args.format _ c.args.starts _ _ _ _ _ c.loop-row.invariant (row_added c.args.format _ c.loop-row.is_first _ _ row under w.in_ok-write_row.ensures.all))
      | else-has w ↦ rw (w.out-is, w.is_first-is) c.loop-row.invariant
    ]
