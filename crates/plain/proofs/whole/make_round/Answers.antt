use Rattle.std.proofs.Common.{◌∙◌, Bool, inr, subst, sym}
use Rattle.plain.specs.Runs.{IsSavedIf}
use Rattle.plain.proofs.Rounds.{by-commit, stays-after}
use Rattle.plain.proofs.whole.make_round.Goals as goal

pub returns-in-Err-save_if-clause-refused : goal.returns-in-Err-save_if-clause-refused
returns-in-Err-save_if-clause-refused g c =
    let why = c.in-Err-save_if.ensures.refused in
    inr (c.in-Ok.run', c.in-Ok.ensures.committed, sym c.is_kept.ensures ∙ why.0, why.1)

pub returns-in-Err-save_if-clause-stays : goal.returns-in-Err-save_if-clause-stays
returns-in-Err-save_if-clause-stays g c =
    stays-after g.M.Model.meaning g.D.SectorDisk.state c.args.run c.in-Ok.run' c.in-Err-save_if.stopped.disk
    (by-commit g.M.Model.meaning g.D.SectorDisk.state c.args.plan.commit_every c.args.run c.in-Ok.run' c.in-Ok.ensures.committed) c.in-Err-save_if.ensures.stays

pub returns-clause-made : goal.returns-clause-made
returns-clause-made g c = (
  c.in-Ok.run',
  c.in-Ok.ensures.committed,
  subst (λ (b : Bool). IsSavedIf g.M.Model.meaning g.D.SectorDisk.state b c.args.plan.seals c.in-Ok.run' c.in-Ok-save_if.run') c.is_kept.ensures c.in-Ok-save_if.ensures.saved,
)
