use Rattle.std.proofs.Common.{refl}
use Rattle.frames.proofs.Accepted.{judged_all, judged_more, judged_refused, none_accepted}
use Rattle.frames.proofs.judging.known.judge_all.Goals as goal

pub reports-preserved : goal.reports-preserved
reports-preserved g c =
    judged_more (g.M.Model.meaning c.args.model.now) c.args.every c.args.nodes c.args.known.now.items c.args.reports.now c.reports.left c.in-Some.report c.next.new.self c.reports.known.items c.judge_one.new.known.items c.in-Some.ensures
    (c.if-not-judge_one.ensures.accepted.0 refl) (c.if-not-judge_one.ensures.moved refl) c.reports.invariant

pub returns-then-not-judge_one-clause-first : goal.returns-then-not-judge_one-clause-first
returns-then-not-judge_one-clause-first g c =
    judged_refused (g.M.Model.meaning c.args.model.now) c.args.every c.args.nodes c.args.known.now.items c.args.reports.now c.reports.left c.in-Some.report c.next.new.self c.reports.known.items c.of_report.result c.in-Some.ensures
    c.if-not-judge_one.ensures.accepted c.of_report.ensures c.reports.invariant

pub returns-then-not-judge_one-clause-refused : goal.returns-then-not-judge_one-clause-refused
returns-then-not-judge_one-clause-refused g c =
    none_accepted (g.M.Model.meaning c.args.model.now) c.args.every c.args.nodes c.args.known.now.items c.args.reports.now c.of_report.result (returns-then-not-judge_one-clause-first g c)

pub returns-clause-accepted : goal.returns-clause-accepted
returns-clause-accepted g c = judged_all (g.M.Model.meaning c.args.model.now) c.args.every c.args.nodes c.args.known.now.items c.args.reports.now c.reports.left c.reports.known.items c.in_default.ensures.0 c.reports.invariant
