use Rattle.std.proofs.Common.{◌∙◌, ◌++◌, List, ap, map, subst}
use Rattle.eventkey.specs.Message.{Message}
use Rattle.eventkey.specs.Signed.{minus}
use Rattle.process.proofs.Courses.{HasCancelled, all_cancelled, none_cancelled, one_more_cancelled}
use Rattle.process.specs.declared.Done.{Done}
use Rattle.queues.specs.Queue.{last_of}
use Rattle.process.proofs.sends.cancel_sends.Goals as goal

pub loop-report-init : goal.loop-report-init
loop-report-init c =
    subst (λ (ds : List Done). HasCancelled ds c.last_reports-undone.result c.args.out.now.items c.args.out.now.items) c.last_reports-undone.ensures (none_cancelled c.last_reports-undone.result c.args.out.now.items)

pub loop-report-preserved : goal.loop-report-preserved
loop-report-preserved c =
    one_more_cancelled _ c.loop-report.undone c.next.new.self c.in-Some.report _ _ _ c.in-Some.ensures
    (c.in_ok-append.ensures.out ∙ ap (λ (xs : List Message). c.loop-report.out.items ++ map minus xs) (c.as_slice-in-Some.ensures ∙ c.sent.ensures)) c.loop-report.invariant

pub returns-clause-out : goal.returns-clause-out
returns-clause-out c =
    all_cancelled (last_of c.args.count c.args.history.now.done) c.args.history.now.state c.args.history.now.number c.loop-report.undone _ _ c.in_default.ensures.0 c.loop-report.invariant
