use Rattle.std.proofs.Common.{◌≡◌, ◌+◌, ℕ, Err, List, refl, ap, arith, subst, sym, length, ◌∙◌}
use Rattle.std.proofs.lemmas.List.{length-replicate}
use Rattle.model.specs.World.{World}
use Rattle.std.specs.Prelude.{None, Option}
use Rattle.runs.specs.Driver.{AreCounts, AreRounds, AreRoundsOfRun, IsRound, commits_in, reported_since, round_after, trusts_by}
use Rattle.runs.specs.Budgets.{first_budget}
use Rattle.runs.specs.declared.budgets.NodeBudget.{NodeBudget}
use Rattle.runs.specs.Tallies.{IsTallied, IsTallyOf}
use Rattle.runs.proofs.Counts.{none_handled, round_more}
use Rattle.runs.proofs.Drives.{all_made, driven_represents, driven_so, finished, shaped_by, stood-keeps, stood_by, then_after, then_represents}
use Rattle.runs.proofs.Causes.{refused_only}
use Rattle.runs.proofs.Refused.{refused_after}
use Rattle.std.proofs.lemmas.Result.{err_from_is_err_and}
use Rattle.runs.proofs.Shapes.{one_round_more, rounds_before}
use Rattle.runs.proofs.rounds.run_session.Goals as goal

pub rounds-init : goal.rounds-init
rounds-init g c = record {
  made = (omega arith, omega arith);
  driven = stood_by g.M.Model.meaning g.P.Port.state g.D.SectorDisk.state (λ made. AreRounds c.args.plan c.args.end c.args.plan.rounds 0 made × IsTallyOf c.args.plan c.in_ok-tally.tally made) c.args.session.now (refl, record { events_until_commit = omega (arith, c.in_ok-tally.ensures.events_until_commit); commits = c.in_ok-tally.ensures.commits; outstanding = c.in_ok-tally.ensures.outstanding; budgets = c.in_ok-tally.ensures.budgets; budgeted = tt; handled = none_handled c.args.plan.nodes c.in_ok-tally.tally.handled_per_node.items c.in_ok-tally.ensures.handled });
  commits = omega (arith, c.in_ok-tally.ensures.commits);
  sized = record {
    budgets = ap length c.in_ok-tally.ensures.budgets ∙ length-replicate {A = NodeBudget} c.args.plan.nodes first_budget;
    outstanding = ap length c.in_ok-tally.ensures.outstanding ∙ length-replicate {A = Option ℕ} c.args.plan.nodes None;
    turns = c.in_ok-tally.ensures.turns;
    handled = ap length c.in_ok-tally.ensures.handled ∙ length-replicate {A = ℕ} c.args.plan.nodes 0;
  };
}

pub returns-in_err-make_round-clause-keeps : goal.returns-in_err-make_round-clause-keeps
returns-in_err-make_round-clause-keeps g c = then_represents g.M.Model.meaning g.P.Port.state g.D.SectorDisk.state c.args.session.now c.rounds.session c.make_round.new.session (driven_so g.M.Model.meaning g.P.Port.state g.D.SectorDisk.state _ c.args.session.now c.rounds.session c.rounds.invariant.driven) c.in_err-make_round.ensures.keeps

pub rounds-preserved : goal.rounds-preserved
rounds-preserved g c =
    let before = c.rounds.invariant.driven in
    let last = c.last_round-last.result in
    let now = rounds_before c.args.plan c.args.end c.rounds.last last c.rounds.made before.steps (omega (arith, c.if-made-last.false)) c.last_round-last.ensures.later before.shape.0 in
    record {
      made = (omega (arith, c.last_round-last.ensures.later), omega (arith, c.last_round-last.ensures.none_more, c.rounds.invariant.made.1));
      driven = then_after g.M.Model.meaning g.P.Port.state g.D.SectorDisk.state _ (λ made. IsRound (round_after c.args.plan c.args.end last c.rounds.made) (reported_since 0 before.steps) c.rounds.tally.commits c.rounds.tally.outstanding.items made × IsTallied c.args.plan c.rounds.tally c.make_round.new.tally made)
          (λ made. AreRounds c.args.plan c.args.end last (c.rounds.made + 1) made × IsTallyOf c.args.plan c.make_round.new.tally made)
          c.args.session.now c.rounds.session c.make_round.new.session before
          (λ ls round. round_more c.args.plan c.args.end last c.rounds.made c.rounds.tally c.make_round.new.tally before.steps ls (now, before.shape.1) round)
          (c.in_ok-make_round.ensures.driven (reported_since 0 before.steps) before.shape.1.events_until_commit);
      commits = omega (arith, c.in_ok-make_round.ensures.commits, c.rounds.invariant.commits);
      sized = c.make_round.ensures.sized;
    }

pub returns-clause-ended : goal.returns-clause-ended
returns-clause-ended g c =
    let time = ap (λ (w : World). w.time) c.front.ensures in
    let driven = driven_so g.M.Model.meaning g.P.Port.state g.D.SectorDisk.state _ c.args.session.now c.rounds.session c.rounds.invariant.driven in
    record {
      rounds = c.rounds.made;
      last = c.rounds.last;
      some = c.rounds.invariant.made;
      in_rounds = shaped_by g.M.Model.meaning g.P.Port.state g.D.SectorDisk.state _ (λ made. AreRoundsOfRun c.args.plan c.args.end c.rounds.last c.rounds.made made × AreCounts c.into_handled_per_node.result.items made) c.args.session.now c.rounds.session
          (λ ks is. ((is.0, is.1.budgeted), subst (λ (counts : List ℕ). AreCounts counts ks) (sym c.into_handled_per_node.ensures) is.1.handled)) c.rounds.invariant.driven;
      each = ap length c.into_handled_per_node.ensures ∙ c.rounds.invariant.sized.handled;
      reached = omega (arith, time, c.rounds-test.false);
      driven = driven;
      finished = λ same. finished g.M.Model.meaning g.P.Port.state g.D.SectorDisk.state c.args.end c.args.session.now c.rounds.session same driven (omega (arith, time, c.rounds-test.false));
    }

pub returns-then-made-plan-clause-keeps : goal.returns-then-made-plan-clause-keeps
returns-then-made-plan-clause-keeps g c = driven_represents g.M.Model.meaning g.P.Port.state g.D.SectorDisk.state c.args.session.now c.rounds.session (driven_so g.M.Model.meaning g.P.Port.state g.D.SectorDisk.state _ c.args.session.now c.rounds.session c.rounds.invariant.driven)

pub returns-clause-keeps : goal.returns-clause-keeps
returns-clause-keeps g c = driven_represents g.M.Model.meaning g.P.Port.state g.D.SectorDisk.state c.args.session.now c.rounds.session (driven_so g.M.Model.meaning g.P.Port.state g.D.SectorDisk.state _ c.args.session.now c.rounds.session c.rounds.invariant.driven)

pub returns-then-made-plan-clause-cause : goal.returns-then-made-plan-clause-cause
returns-then-made-plan-clause-cause g c =
    let before : c.rounds.session.front.time ≡ c.front.result.time = ap (λ (w : World). w.time) c.front.ensures in
    let all : c.rounds.made ≡ c.args.plan.rounds = omega (arith, c.if-made-plan.true, c.rounds.invariant.made.0, c.rounds.invariant.made.1) in
    let last : c.rounds.last ≡ c.args.plan.rounds = omega (arith, c.if-made-plan.true, c.rounds.invariant.made.0, c.rounds.invariant.made.1) in (
      omega (arith, before, c.rounds-test.true),
      all_made g.M.Model.meaning g.P.Port.state g.D.SectorDisk.state c.args.plan c.args.end c.rounds.last c.rounds.made c.args.plan.rounds c.args.session.now c.rounds.session last all
          (shaped_by g.M.Model.meaning g.P.Port.state g.D.SectorDisk.state _ (AreRoundsOfRun c.args.plan c.args.end c.rounds.last c.rounds.made) c.args.session.now c.rounds.session (λ ks h. (h.0, h.1.budgeted)) c.rounds.invariant.driven),
    )

pub returns-then-made-last-clause-keeps : goal.returns-then-made-last-clause-keeps
returns-then-made-last-clause-keeps g c = driven_represents g.M.Model.meaning g.P.Port.state g.D.SectorDisk.state c.args.session.now c.rounds.session (driven_so g.M.Model.meaning g.P.Port.state g.D.SectorDisk.state _ c.args.session.now c.rounds.session c.rounds.invariant.driven)

pub returns-then-made-last-clause-cause : goal.returns-then-made-last-clause-cause
returns-then-made-last-clause-cause g c =
    let late : c.rounds.session.front.time ≡ c.front-front.result.time = ap (λ (w : World). w.time) c.front-front.ensures in
    let before : c.rounds.session.front.time ≡ c.front.result.time = ap (λ (w : World). w.time) c.front.ensures in
    let all : c.rounds.made ≡ c.rounds.last = omega (arith, c.if-made-last.true, c.rounds.invariant.made.0) in (
      omega (arith, before, c.rounds-test.true),
      sym late,
      sym (ap (λ (w : World). length w.log) c.front-front.ensures),
      (
        c.rounds.last,
        omega (arith, c.if-made-plan.false, c.if-made-last.true),
        all_made g.M.Model.meaning g.P.Port.state g.D.SectorDisk.state c.args.plan c.args.end c.rounds.last c.rounds.made c.rounds.last c.args.session.now c.rounds.session refl all
            (shaped_by g.M.Model.meaning g.P.Port.state g.D.SectorDisk.state _ (AreRoundsOfRun c.args.plan c.args.end c.rounds.last c.rounds.made) c.args.session.now c.rounds.session (λ ks h. (h.0, h.1.budgeted)) c.rounds.invariant.driven),
      ),
    )

pub returns-in_err-make_round-clause-cause : goal.returns-in_err-make_round-clause-cause
returns-in_err-make_round-clause-cause g c =
    refused_only g.M.Model.meaning g.P.Port.state g.D.SectorDisk.state c.args.end c.args.plan c.args.session.now c.make_round.new.session c.from_residual-in_err-make_round.result c.in_err-make_round.field-0.0 c.from_residual-in_err-make_round.ensures.1
    (λ fault e.
    let before = c.rounds.invariant.driven in
    let last = c.last_round-last.result in
    let now = rounds_before c.args.plan c.args.end c.rounds.last last c.rounds.made before.steps (omega (arith, c.if-made-last.false)) c.last_round-last.ensures.later before.shape.0 in (
      c.rounds.made + 1,
      last,
      (omega (arith, c.last_round-last.ensures.later), omega (arith, c.last_round-last.ensures.none_more, c.rounds.invariant.made.1)),
      refused_after g.M.Model.meaning g.P.Port.state g.D.SectorDisk.state _ (IsRound (round_after c.args.plan c.args.end last c.rounds.made) (reported_since 0 before.steps) c.rounds.tally.commits c.rounds.tally.outstanding.items) (AreRounds c.args.plan c.args.end last (c.rounds.made + 1)) c.args.session.now c.rounds.session c.make_round.new.session fault before
          (λ ls round. one_round_more c.args.plan c.args.end last c.rounds.made before.steps ls now (subst (λ (o : List (Option ℕ)). IsRound (round_after c.args.plan c.args.end last c.rounds.made) (reported_since 0 before.steps) (commits_in before.steps) o ls) before.shape.1.outstanding
          (subst (λ (n : ℕ). IsRound (round_after c.args.plan c.args.end last c.rounds.made) (reported_since 0 before.steps) n c.rounds.tally.outstanding.items ls) before.shape.1.commits round)))
          (c.in_err-make_round.ensures.refused (reported_since 0 before.steps) before.shape.1.events_until_commit fault (ap Err e)),
    ))

pub returns-in_err-tally-clause-cause : goal.returns-in_err-tally-clause-cause
returns-in_err-tally-clause-cause g c = let p = err_from_is_err_and c.from_residual.result c.from_residual.ensures.1 in rw (p.1, p.2) tt

pub returns-in_err-tally-clause-keeps : goal.returns-in_err-tally-clause-keeps
returns-in_err-tally-clause-keeps g c = stood-keeps g.M.Model.meaning g.P.Port.state g.D.SectorDisk.state (trusts_by c.args.plan) c.args.session.now
