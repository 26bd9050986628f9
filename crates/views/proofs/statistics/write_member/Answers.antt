use Rattle.std.proofs.Common.{inr}
use Rattle.cli.specs.declared.command.Format.TheVariants as format
use Rattle.views.specs.Tables.{IsTable}
use Rattle.views.proofs.Printed.{on_any, on_err}
use Rattle.views.proofs.Tabled.{after_begun, after_printed, before_begun, no_table, on_ok}
use Rattle.views.proofs.statistics.write_member.Goals as goal

pub returns-in_err-write_text-clause-err : goal.returns-in_err-write_text-clause-err
returns-in_err-write_text-clause-err g c = on_any _ (inr (before_begun c.args.before.now (IsTable format.Json) _ _ _ (no_table format.Json) c.in_err-write_text.ensures.part))

pub returns-clause-ok : goal.returns-clause-ok
returns-clause-ok g c = on_ok c.write_table.result (after_printed c.args.before.now (IsTable format.Json) _ _ _ c.in_ok-write_text.ensures.all) c.write_table.ensures.ok

pub returns-clause-err : goal.returns-clause-err
returns-clause-err g c = on_err c.write_table.result (λ k. inr (after_begun c.args.before.now (IsTable format.Json) _ _ _ c.in_ok-write_text.ensures.all k)) c.write_table.ensures.err
