use Rattle.std.proofs.Common.{inr, ap}
use Rattle.views.specs.Tables.{IsFigures, IsRest}
use Rattle.views.proofs.Printed.{on_any, on_err}
use Rattle.views.proofs.Tabled.{both_printed, first_refused, on_ok, second_refused}
use Rattle.views.proofs.statistics.write_object.Goals as goal
use Rattle.views.proofs.Members.{some_rest}

pub returns-in_err-write_members-clause-err : goal.returns-in_err-write_members-clause-err
returns-in_err-write_members-clause-err g c =
    let rest = some_rest c.args.names in
    on_any _ (first_refused IsFigures (IsRest c.args.names) _ _ rest.0 rest.1 c.in_err-write_members.ensures.err)

pub returns-clause-ok : goal.returns-clause-ok
returns-clause-ok g c = on_ok c.write_rest.result (both_printed IsFigures (IsRest c.args.names) _ _ _ c.in_ok-write_members.ensures.ok) c.write_rest.ensures.ok

pub returns-clause-err : goal.returns-clause-err
returns-clause-err g c =
    let rest = some_rest c.args.names in
    on_err c.write_rest.result (λ k. inr (second_refused IsFigures (IsRest c.args.names) _ _ _ rest.0 rest.1 c.in_ok-write_members.ensures.ok (λ e. ap g.O.Write.contents e) k)) c.write_rest.ensures.err
