use Rattle.std.proofs.Common.{[], ◌∙◌, ℕ, ap, arith, refl}
use Rattle.std.specs.Prelude.{List, Option, Some, set}
use Rattle.runs.specs.Driver.{IsPost, floor_in, trusts_by}
use Rattle.runs.specs.Tallies.{Tallied}
use Rattle.runs.proofs.Counts.{not_counted}
use Rattle.runs.proofs.Drives.{one_step_by, step-keeps, stood-keeps}
use Rattle.runs.proofs.Shapes.{all_picked, is_post}
use Rattle.runs.proofs.Refused.{of_step, refused_at_once}
use Rattle.gvt.specs.declared.Answer.TheVariants.{AlreadyAt}
use Rattle.runs.proofs.rounds.post.Goals as goal

pub returns-clause-driven : goal.returns-clause-driven
returns-clause-driven g c =
    one_step_by g.M.Model.meaning g.P.Port.state g.D.SectorDisk.state (Tallied c.args.round.plan (IsPost c.args.round.plan c.args.node) c.args.tally.now c.posted.new.self) _ c.in_ok-answer.answer c.args.session.now c.step.new.self
    (record {
      shape = is_post c.args.round.plan c.args.node c.budget-budget.result c.from_vec.result _ refl
          (all_picked c.args.round.plan.nodes c.args.node c.transit.result.now c.args.session.now.ledger.transit c.from_vec.result c.in_ok-picks.picks.items c.transit.ensures.value c.from_vec.ensures c.in_ok-picks.ensures) c.budget-budget.ensures.allowed;
      tally = record { events_until_commit = λ reported is. c.posted.ensures.events_until_commit ∙ (c.asked.ensures.events_until_commit ∙ is); commits = omega (arith, c.posted.ensures.commits, c.asked.ensures.commits); outstanding = c.posted.ensures.outstanding ∙ ap (λ (o : List (Option ℕ)). set o c.args.node (Some (floor_in c.in_ok-answer.answer))) c.asked.ensures.outstanding; budgets = c.posted.ensures.budgets ∙ c.asked.ensures.budgets; budgeted = (c.budget-budget.ensures.own, tt); handled = not_counted c.args.tally.now.handled_per_node.items c.posted.new.self.handled_per_node.items (c.posted.ensures.handled ∙ c.asked.ensures.handled) };
      floor = c.posted.ensures.floor ∙ c.asked.ensures.floor;
    }) c.in_ok-answer.ensures (λ is. refl)

pub returns-in_err-answer-clause-refused : goal.returns-in_err-answer-clause-refused
returns-in_err-answer-clause-refused g c = λ fault is.
    refused_at_once g.M.Model.meaning g.P.Port.state g.D.SectorDisk.state (IsPost c.args.round.plan c.args.node) _ (AlreadyAt 0) [] c.args.session.now c.step.new.self c.in_err-answer.field-0.0 fault
    (is_post c.args.round.plan c.args.node c.budget-budget.result c.from_vec.result _ refl
    (all_picked c.args.round.plan.nodes c.args.node c.transit.result.now c.args.session.now.ledger.transit c.from_vec.result c.in_ok-picks.picks.items c.transit.ensures.value c.from_vec.ensures c.in_ok-picks.ensures) c.budget-budget.ensures.allowed) (of_step c.from_residual-in_err-answer.result c.in_err-answer.field-0.0 fault c.from_residual-in_err-answer.ensures.1 is) c.in_err-answer.ensures

pub returns-in_err-answer-clause-keeps : goal.returns-in_err-answer-clause-keeps
returns-in_err-answer-clause-keeps g c = step-keeps g.M.Model.meaning g.P.Port.state g.D.SectorDisk.state (trusts_by c.args.round.plan) _ c.args.session.now c.step.new.self _ c.step.ensures (λ is. refl)

pub returns-clause-keeps : goal.returns-clause-keeps
returns-clause-keeps g c = step-keeps g.M.Model.meaning g.P.Port.state g.D.SectorDisk.state (trusts_by c.args.round.plan) _ c.args.session.now c.step.new.self _ c.step.ensures (λ is. refl)

pub returns-in_err-picks-clause-keeps : goal.returns-in_err-picks-clause-keeps
returns-in_err-picks-clause-keeps g c = stood-keeps g.M.Model.meaning g.P.Port.state g.D.SectorDisk.state (trusts_by c.args.round.plan) c.args.session.now
