use Rattle.std.proofs.Common.{◌≡◌, [], ◌∷◌, arith, refl}
use Rattle.gvt.specs.Moves.Move.{Take}
use Rattle.runs.specs.Driver.{moves_of, trusts_by}
use Rattle.runs.specs.Tallies.{Tallied}
use Rattle.runs.proofs.Counts.{take_counted}
use Rattle.runs.proofs.Drives.{one_step_by, step-keeps}
use Rattle.runs.proofs.Refused.{of_step, refused_at_once}
use Rattle.gvt.specs.declared.Answer.TheVariants.{AlreadyAt}
use Rattle.runs.proofs.rounds.take.Goals as goal

pub returns-clause-driven : goal.returns-clause-driven
returns-clause-driven g c =
    one_step_by g.M.Model.meaning g.P.Port.state g.D.SectorDisk.state (Tallied c.args.round.plan (λ taken. moves_of taken ≡ Take c.args.node ∷ []) c.args.tally.now c.taken.new.self) _ c.in_ok-answer.answer c.args.session.now c.step.new.self
    (record {
      shape = refl;
      tally = record {
        events_until_commit = λ reported is. omega (arith, c.taken.ensures.events_until_commit, is);
        commits = omega (arith, c.taken.ensures.commits);
        outstanding = c.taken.ensures.outstanding;
        budgets = c.taken.ensures.budgets;
        budgeted = (tt, tt);
        handled = take_counted c.args.node c.args.tally.now.handled_per_node.items c.taken.new.self.handled_per_node.items c.in_ok-answer.answer (omega (arith, c.requires.node, c.requires.sized.handled)) c.taken.ensures.handled;
      };
      floor = c.taken.ensures.floor;
    }) c.in_ok-answer.ensures (λ is. refl)

pub returns-in_err-answer-clause-refused : goal.returns-in_err-answer-clause-refused
returns-in_err-answer-clause-refused g c = λ fault is.
    refused_at_once g.M.Model.meaning g.P.Port.state g.D.SectorDisk.state (λ taken. moves_of taken ≡ Take c.args.node ∷ []) _ (AlreadyAt 0) [] c.args.session.now c.step.new.self c.in_err-answer.field-0.0 fault refl (of_step c.from_residual.result c.in_err-answer.field-0.0 fault c.from_residual.ensures.1 is) c.in_err-answer.ensures

pub returns-in_err-answer-clause-keeps : goal.returns-in_err-answer-clause-keeps
returns-in_err-answer-clause-keeps g c = step-keeps g.M.Model.meaning g.P.Port.state g.D.SectorDisk.state (trusts_by c.args.round.plan) _ c.args.session.now c.step.new.self _ c.step.ensures (λ is. refl)

pub returns-clause-keeps : goal.returns-clause-keeps
returns-clause-keeps g c = step-keeps g.M.Model.meaning g.P.Port.state g.D.SectorDisk.state (trusts_by c.args.round.plan) _ c.args.session.now c.step.new.self _ c.step.ensures (λ is. refl)
