use Rattle.std.proofs.Common.{◌≡◌, ◌∙◌, Bool, List, [], ◌∷◌, ap, cond}
use Rattle.coordinator.specs.declared.Step.{Step}
use Rattle.runs.specs.Driver.{Made, checkpoint_by, kept_after, steps_of, trusts_by}
use Rattle.runs.specs.Tallies.{CountsNothing}
use Rattle.runs.proofs.Counts.{checkpoint_counts}
use Rattle.runs.proofs.Drives.{one_step_by, step-keeps, stood-keeps}
use Rattle.runs.proofs.Refused.{of_step, refused_at_once}
use Rattle.gvt.specs.declared.Answer.TheVariants.{AlreadyAt}
use Rattle.runs.proofs.rounds.keep.Goals as goal

pub returns-in_ok-step-clause-driven : goal.returns-in_ok-step-clause-driven
returns-in_ok-step-clause-driven g c =
    one_step_by g.M.Model.meaning g.P.Port.state g.D.SectorDisk.state (λ (made : List Made). (steps_of made ≡ kept_after c.args.plan c.args.number) × CountsNothing made) c.checkpoint_step.result c.in_ok-step.field-0 c.args.session.now c.step.new.self
    (ap (λ (k : Step). k ∷ []) c.checkpoint_step.ensures.step ∙ ap (λ (b : Bool). cond b (checkpoint_by c.args.plan.seals ∷ []) []) c.if-is_kept.ensures, checkpoint_counts c.checkpoint_step.result c.args.session.now.ledger.transit c.in_ok-step.field-0 c.checkpoint_step.ensures.checkpoint) c.in_ok-step.ensures (λ is. c.checkpoint_step.ensures.trusts)

pub returns-in_err-step-clause-refused : goal.returns-in_err-step-clause-refused
returns-in_err-step-clause-refused g c = λ fault is.
    refused_at_once g.M.Model.meaning g.P.Port.state g.D.SectorDisk.state (λ (made : List Made). steps_of made ≡ kept_after c.args.plan c.args.number) c.checkpoint_step.result (AlreadyAt 0) [] c.args.session.now c.step.new.self c.in_err-step.field-0.0 fault (ap (λ (k : Step). k ∷ []) c.checkpoint_step.ensures.step ∙ ap (λ (b : Bool). cond b (checkpoint_by c.args.plan.seals ∷ []) []) c.if-is_kept.ensures) (of_step c.from_residual.result c.in_err-step.field-0.0 fault c.from_residual.ensures.1 is) c.in_err-step.ensures

pub returns-in_ok-step-clause-keeps : goal.returns-in_ok-step-clause-keeps
returns-in_ok-step-clause-keeps g c = step-keeps g.M.Model.meaning g.P.Port.state g.D.SectorDisk.state (trusts_by c.args.plan) _ c.args.session.now c.step.new.self _ c.step.ensures (λ is. c.checkpoint_step.ensures.trusts)

pub returns-in_err-step-clause-keeps : goal.returns-in_err-step-clause-keeps
returns-in_err-step-clause-keeps g c = step-keeps g.M.Model.meaning g.P.Port.state g.D.SectorDisk.state (trusts_by c.args.plan) _ c.args.session.now c.step.new.self _ c.step.ensures (λ is. c.checkpoint_step.ensures.trusts)

pub returns-else-is_kept-clause-keeps : goal.returns-else-is_kept-clause-keeps
returns-else-is_kept-clause-keeps g c = stood-keeps g.M.Model.meaning g.P.Port.state g.D.SectorDisk.state (trusts_by c.args.plan) c.args.session.now
