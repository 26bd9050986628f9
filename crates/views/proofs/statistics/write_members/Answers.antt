use Rattle.std.proofs.Common.{inr, ap}
use Rattle.views.specs.Tables.{IsBoth}
use Rattle.views.proofs.Printed.{on_any, on_err}
use Rattle.views.proofs.Tabled.{both_printed, first_begun, first_refused, on_ok, second_refused}
use Rattle.views.proofs.statistics.write_members.Goals as goal
use Rattle.views.proofs.Members.{busiest, some_busiest, some_spreads, spreads, summary}

pub returns-in_err-write_member-clause-err : goal.returns-in_err-write_member-clause-err
returns-in_err-write_member-clause-err g c =
    on_any _ (first_refused (IsBoth summary spreads) busiest _ _ _ some_busiest (first_refused summary spreads _ _ _ some_spreads c.in_err-write_member.ensures.err))

pub returns-in_err-write_member-2-clause-err : goal.returns-in_err-write_member-2-clause-err
returns-in_err-write_member-2-clause-err g c =
    on_any _ (inr (first_begun (IsBoth summary spreads) busiest _ _ _ some_busiest (second_refused summary spreads _ _ _ _ some_spreads c.in_ok-write_member.ensures.ok (λ e. ap g.O.Write.contents e) c.in_err-write_member-2.ensures.err)))

pub returns-clause-ok : goal.returns-clause-ok
returns-clause-ok g c =
    on_ok c.write_member-3.result (both_printed (IsBoth summary spreads) busiest _ _ _ (both_printed summary spreads _ _ _ c.in_ok-write_member.ensures.ok c.in_ok-write_member-2.ensures.ok)) c.write_member-3.ensures.ok

pub returns-clause-err : goal.returns-clause-err
returns-clause-err g c =
    on_err c.write_member-3.result (λ k. inr (second_refused (IsBoth summary spreads) busiest _ _ _ _ some_busiest (both_printed summary spreads _ _ _ c.in_ok-write_member.ensures.ok c.in_ok-write_member-2.ensures.ok) (λ e. ap g.O.Write.contents e) k)) c.write_member-3.ensures.err
