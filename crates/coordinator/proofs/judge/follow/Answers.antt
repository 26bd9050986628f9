use Rattle.std.proofs.Common.{sym, subst, ◌+◌}
use Rattle.eventkey.proofs.Lists.{drop_here}
use Rattle.coordinator.specs.Judging.{shown}
use Rattle.coordinator.proofs.Judges.{IsFollowed, followed-all, followed-more, followed-no_more, followed-none}
use Rattle.coordinator.proofs.judge.follow.Goals as goal

pub reports-init : goal.reports-init
reports-init g c =
    let m = g.M.Model.meaning c.args.model.now in
    subst (IsFollowed m c.args.time c.args.gathered.now (shown c.args.front.now) 0) (sym c.in_ok-latest.ensures)
    (followed-none m c.args.time c.args.gathered.now (shown c.args.front.now) _ c.requires.states c.requires.there)

pub returns-then-not-branch-clause-refused : goal.returns-then-not-branch-clause-refused
returns-then-not-branch-clause-refused g c = λ e.
    followed-no_more (g.M.Model.meaning c.args.model.now) c.args.time c.args.gathered.now (shown c.args.front.now) c.reports.done-index c.reports.latest.items c.reports.invariant (record { ref_ptr = (0, 0); now = c.done-item.result })
    (drop_here c.args.gathered.now c.reports.done-index c.done-item.result c.reports-test.true c.done-item.is) c.in_ok-look.ensures.ranged
    (λ is. (let t = c.in_ok-look.ensures.accepted.1 is in let f = c.if-not-branch.true in absurd cc))

pub reports-preserved : goal.reports-preserved
reports-preserved g c =
    let m = g.M.Model.meaning c.args.model.now in
    let passed = c.if-not-branch.false in
    subst (IsFollowed m c.args.time c.args.gathered.now (shown c.args.front.now) (c.reports.done-index + 1)) (sym (c.in_ok-look.ensures.latest passed))
    (followed-more m c.args.time c.args.gathered.now (shown c.args.front.now) c.reports.done-index c.reports.latest.items c.reports.invariant _
    (drop_here c.args.gathered.now c.reports.done-index c.done-item.result c.reports-test.true c.done-item.is) c.in_ok-look.ensures.ranged
    (g.met.M.Model.lawful c.args.model.now) (c.in_ok-look.ensures.accepted.0 passed))

pub returns-clause-followed : goal.returns-clause-followed
returns-clause-followed g c = λ e. followed-all (g.M.Model.meaning c.args.model.now) c.args.time c.args.gathered.now (shown c.args.front.now) c.reports.done-index c.reports.latest.items c.reports.invariant c.reports-test.false
