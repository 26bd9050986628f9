use Rattle.std.proofs.Common.{true}
use Rattle.views.proofs.Printed.{on_any}
use Rattle.views.proofs.Tabled.{has_begun, has_more, has_none, has_tail, has_whole, head_begun}
use Rattle.views.proofs.tables.write_table.Goals as goal

pub returns-in_err-write_begin-clause-err : goal.returns-in_err-write_begin-clause-err
returns-in_err-write_begin-clause-err g c = on_any _ (head_begun c.args.format _ _ _ c.in_err-write_begin.ensures.part)

pub returns-in_err-write_more-clause-err : goal.returns-in_err-write_more-clause-err
returns-in_err-write_more-clause-err g c =
    on_any _ (has_begun c.args.format _ _ _ _ true (has_none c.args.format _ _ _ c.in_ok-write_begin.ensures.all) c.in_err-write_more.ensures.err)

pub returns-clause-ok : goal.returns-clause-ok
returns-clause-ok g c =
    has_whole c.args.format _ c.write_end.result _ _ _ _ (has_more c.args.format _ _ _ _ true _ (has_none c.args.format _ _ _ c.in_ok-write_begin.ensures.all) c.in_ok-write_more.ensures.ok) c.write_end.ensures

pub returns-clause-err : goal.returns-clause-err
returns-clause-err g c =
    has_tail c.args.format _ c.write_end.result _ _ _ _ (has_more c.args.format _ _ _ _ true _ (has_none c.args.format _ _ _ c.in_ok-write_begin.ensures.all) c.in_ok-write_more.ensures.ok) c.write_end.ensures
