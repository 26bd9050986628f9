use Rattle.std.proofs.Common.{◌≡◌, ◌≤◌, ◌∙◌, ap, arith, false, min, subst, sym, true}
use Rattle.model.proofs.Runs.{left_over, run_more, step_below, went}
use Rattle.model.specs.Runner.{IsIdle, is_due}
use Rattle.pictures.proofs.Passed.{first_due}
use Rattle.pictures.specs.Stepping.{comes_before}
use Rattle.pictures.proofs.stepping.step_some.Goals as goal

pub loop-preserved : goal.loop-preserved
loop-preserved g c =
    let m = g.M.Model.meaning c.args.model.now in
    let bound = c.min-bound.result in
    let s = c.loop.world in
    let due : is_due bound s.world.pending ≡ true = sym (first_due bound s.world.pending) ∙ ap (λ o. comes_before o bound) (sym c.least.ensures.least) ∙ sym c.comes_before.ensures ∙ c.if-not-comes_before.false in
    let le : bound ≤ s.end = omega (arith, c.min-bound.ensures, c.end.ensures, c.loop.invariant.end) in
    let is = went m bound s.end s.world c.step.new.self.world c.in_ok-step.field-0 le due c.in_ok-step.ensures.handled c.in_ok-step.ensures.idle in
    record {
      run = run_more m bound c.args.world.now.world s.world c.step.new.self.world c.loop.invariant.run (step_below m bound s.end s.world c.step.new.self.world due is);
      end = c.in_ok-step.ensures.end ∙ c.loop.invariant.end;
      lps = c.in_ok-step.ensures.lps ∙ c.loop.invariant.lps;
    }

pub returns-then-not-comes_before-clause-idle : goal.returns-then-not-comes_before-clause-idle
returns-then-not-comes_before-clause-idle g c = λ e.
    let bound = c.min-bound.result in
    let s = c.loop.world in
    let same : bound ≡ min c.args.g c.args.world.now.end = c.min-bound.ensures ∙ ap (λ n. min c.args.g n) c.end.ensures in
    let due : is_due bound s.world.pending ≡ false = sym (first_due bound s.world.pending) ∙ ap (λ o. comes_before o bound) (sym c.least.ensures.least) ∙ sym c.comes_before.ensures ∙ c.if-not-comes_before.true in
    subst (λ b. IsIdle b s.world) same (left_over bound s.world c.least.ensures.ascending due)
