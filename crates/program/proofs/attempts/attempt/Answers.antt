use Rattle.std.proofs.Common.{ℕ, ◌≡◌, ◌∙◌, ap, subst, Bool}
use Rattle.std.specs.Prelude.{IfOk, not}
use Rattle.disk.specs.FileDisks.{disk_of_file}
use Rattle.program.proofs.Printed.{judged_apart}
use Rattle.runs.specs.declared.rounds.Plan.{Plan}
use Rattle.program.specs.Attempts.{IsAttempt, IsAttemptBy, judges_all}
use Rattle.program.proofs.attempts.attempt.Goals as goal

pub returns-then-args-clause-tried : goal.returns-then-args-clause-tried
returns-then-args-clause-tried g c = rw c.if-args.true c.attempt_plainly.ensures

pub returns-in-None-clause-tried : goal.returns-in-None-clause-tried
returns-in-None-clause-tried g c =
    rw (c.if-args.false, c.in-None.is) (subst (λ (n : ℕ). IsAttempt (g.M.Model.meaning c.args.of.now.model) c.args.of.now.end n (disk_of_file c.args.disk) (disk_of_file c.attempt_here.result.disk) c.attempt_here.result.outcome (c.attempt_here.new.out ≡ c.args.out.now) (g.O.Write.contents c.args.out.now) (g.O.Write.contents c.attempt_here.new.out)) c.plan_of-plan.ensures.nodes c.attempt_here.ensures)

pub returns-in-Some-clause-tried : goal.returns-in-Some-clause-tried
returns-in-Some-clause-tried g c =
    let judge = c.args.args.judge in
    let plan = c.plan_of-plan.result in
    let judged : plan.judged ≡ judges_all judge =
    ap (λ (p : Plan). p.judged) c.plan_of-plan.ensures.is ∙ judged_apart c.args.args.sockets _ judge c.in-Some.is in
    let Tried : Bool → ℕ → Type 0 = λ b n. IfOk c.attempt_behind.result (λ ended. IsAttemptBy (not b) (g.M.Model.meaning c.args.of.now.model) c.args.of.now.end n (disk_of_file c.args.disk) (disk_of_file ended.disk) ended.outcome (c.attempt_behind.new.out ≡ c.args.out.now) (g.O.Write.contents c.args.out.now) (g.O.Write.contents c.attempt_behind.new.out)) in
    rw (c.if-args.false, c.in-Some.is) (subst (λ (b : Bool). Tried b c.args.args.nodes) judged (subst (λ (n : ℕ). Tried plan.judged n) c.plan_of-plan.ensures.nodes c.attempt_behind.ensures.tried))
