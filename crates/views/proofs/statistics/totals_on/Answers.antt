use Rattle.std.proofs.Common.{inr}
use Rattle.views.specs.Tables.{IsTable}
use Rattle.views.proofs.Printed.{on_any}
use Rattle.views.proofs.Tabled.{printed_begun, printed_kept}
use Rattle.views.proofs.statistics.totals_on.Goals as goal

pub returns-in_err-flush-clause-err : goal.returns-in_err-flush-clause-err
returns-in_err-flush-clause-err g c = on_any c.from_residual-in_err-flush.result (inr (printed_begun (IsTable c.args.format) _ _ _ c.in_ok-write_totals.ensures.ok c.flush.ensures.bytes))

pub returns-clause-ok : goal.returns-clause-ok
returns-clause-ok g c = printed_kept (IsTable c.args.format) _ _ _ c.in_ok-write_totals.ensures.ok c.flush.ensures.bytes
