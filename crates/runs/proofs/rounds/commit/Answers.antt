use Rattle.std.proofs.Common.{◌≡◌, ◌+◌, List, [], ◌∷◌, ◌∙◌}
use Rattle.runs.specs.Driver.{Made, commit_by, kept_after, steps_of, trusts_by}
use Rattle.runs.specs.Tallies.{CountsNothing, IsTallied}
use Rattle.runs.proofs.Counts.{commit_kept, commit_tallied}
use Rattle.runs.proofs.Drives.{driven_so, on_ok, one_step_by, step-keeps, then_by, then_represents}
use Rattle.runs.proofs.Refused.{made_by, refused_after, of_step, refused_at_once, same_steps}
use Rattle.coordinator.specs.declared.Step.{Step}
use Rattle.gvt.specs.declared.Answer.TheVariants.{AlreadyAt}
use Rattle.runs.proofs.Counts.{steps_more}
use Rattle.std.proofs.Common.{◌++◌, ap, ap₂}
use Rattle.runs.proofs.rounds.commit.Goals as goal

pub returns-clause-driven : goal.returns-clause-driven
returns-clause-driven g c =
    on_ok c.keep.result
    (then_by g.M.Model.meaning g.P.Port.state g.D.SectorDisk.state (λ (made : List Made). (steps_of made ≡ commit_by c.args.plan ∷ []) × IsTallied c.args.plan c.args.tally.now c.committed.new.self made)
    (λ (made : List Made). (steps_of made ≡ kept_after c.args.plan c.commits.result) × CountsNothing made)
    (λ (made : List Made). (steps_of made ≡ commit_by c.args.plan ∷ kept_after c.args.plan (c.args.tally.now.commits + 1)) × IsTallied c.args.plan c.args.tally.now c.committed.new.self made)
    c.args.session.now c.step.new.self c.keep.new.session
    (λ ks ls. commit_kept c.args.plan c.commits.result c.args.tally.now c.committed.new.self ks ls (c.commits.ensures ∙ c.committed.ensures.commits))
    (one_step_by g.M.Model.meaning g.P.Port.state g.D.SectorDisk.state _ c.commit_step.result c.in_ok-step.field-0 c.args.session.now c.step.new.self (
      ap (λ (k : Step). k ∷ []) c.commit_step.ensures.step,
      commit_tallied c.args.plan c.args.tally.now c.committed.new.self c.commit_step.result c.args.session.now.ledger.transit c.in_ok-step.field-0 c.commit_step.ensures.commit c.committed.ensures.events_until_commit c.committed.ensures.commits c.committed.ensures.outstanding c.committed.ensures.budgets c.committed.ensures.handled,
    )
    c.in_ok-step.ensures (λ is. c.commit_step.ensures.trusts ∙ is))) c.keep.ensures.driven

pub returns-clause-keeps : goal.returns-clause-keeps
returns-clause-keeps g c =
    then_represents g.M.Model.meaning g.P.Port.state g.D.SectorDisk.state c.args.session.now c.step.new.self c.keep.new.session
    (driven_so g.M.Model.meaning g.P.Port.state g.D.SectorDisk.state (λ (made : List Made). steps_of made ≡ commit_by c.args.plan ∷ []) c.args.session.now c.step.new.self
    (one_step_by g.M.Model.meaning g.P.Port.state g.D.SectorDisk.state _ c.commit_step.result c.in_ok-step.field-0 c.args.session.now c.step.new.self (ap (λ (k : Step). k ∷ []) c.commit_step.ensures.step) c.in_ok-step.ensures (λ is. c.commit_step.ensures.trusts ∙ is))) c.keep.ensures.keeps

pub returns-in_err-step-clause-refused : goal.returns-in_err-step-clause-refused
returns-in_err-step-clause-refused g c = λ fault is.
    let rest = kept_after c.args.plan (c.args.tally.now.commits + 1) in
    refused_at_once g.M.Model.meaning g.P.Port.state g.D.SectorDisk.state (λ (made : List Made). steps_of made ≡ commit_by c.args.plan ∷ rest) c.commit_step.result (AlreadyAt 0) (made_by rest) c.args.session.now c.step.new.self c.in_err-step.field-0.0 fault (ap₂ (λ (k : Step) (ks : List Step). k ∷ ks) c.commit_step.ensures.step (same_steps rest)) (of_step c.from_residual.result c.in_err-step.field-0.0 fault c.from_residual.ensures.1 is) c.in_err-step.ensures

pub returns-clause-refused : goal.returns-clause-refused
returns-clause-refused g c = λ fault is.
    let first = one_step_by g.M.Model.meaning g.P.Port.state g.D.SectorDisk.state {b = trusts_by c.args.plan} (λ (made : List Made). steps_of made ≡ commit_by c.args.plan ∷ []) c.commit_step.result c.in_ok-step.field-0 c.args.session.now c.step.new.self (ap (λ (k : Step). k ∷ []) c.commit_step.ensures.step) c.in_ok-step.ensures (λ is. c.commit_step.ensures.trusts ∙ is) in
    refused_after g.M.Model.meaning g.P.Port.state g.D.SectorDisk.state (λ (made : List Made). steps_of made ≡ commit_by c.args.plan ∷ []) (λ (made : List Made). steps_of made ≡ kept_after c.args.plan c.commits.result)
    (λ (made : List Made). steps_of made ≡ commit_by c.args.plan ∷ kept_after c.args.plan (c.args.tally.now.commits + 1)) c.args.session.now c.step.new.self c.keep.new.session fault first
    (λ ls kept. steps_more first.steps ls ∙ ap₂ (λ (a b : List Step). a ++ b) first.shape (kept ∙ ap (kept_after c.args.plan) (c.commits.ensures ∙ c.committed.ensures.commits))) (c.keep.ensures.refused fault is)

pub returns-in_err-step-clause-keeps : goal.returns-in_err-step-clause-keeps
returns-in_err-step-clause-keeps g c = step-keeps g.M.Model.meaning g.P.Port.state g.D.SectorDisk.state (trusts_by c.args.plan) c.commit_step.result c.args.session.now c.step.new.self _ c.step.ensures (λ is. c.commit_step.ensures.trusts ∙ is)
