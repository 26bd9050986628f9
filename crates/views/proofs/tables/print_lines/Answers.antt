use Rattle.std.proofs.Common.{inr}
use Rattle.cli.specs.declared.command.Format.TheVariants as format
use Rattle.views.specs.Tables.{IsFields}
use Rattle.views.proofs.Printed.{on_any}
use Rattle.views.proofs.Tabled.{printed_begun}
use Rattle.views.proofs.tables.print_lines.Goals as goal

pub returns-in_err-flush-clause-err : goal.returns-in_err-flush-clause-err
returns-in_err-flush-clause-err g c =
    let h = rw c.as_str.ensures.value at c.in_ok-write_text.ensures.all in
    on_any c.from_residual-in_err-flush.result (inr (printed_begun (IsFields format.Text) _ _ _ (_, c.in_ok-lines.ensures, h) c.flush.ensures.bytes))
