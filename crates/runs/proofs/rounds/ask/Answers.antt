use Rattle.std.proofs.Common.{OnOk, subst, sym}
use Rattle.runs.specs.Driver.{AreAsked, IsDrivenBy, IsRefusedIn, trusts_by}
use Rattle.runs.specs.Tallies.{Tallied}
use Rattle.runs.specs.declared.rounds.Schedule.{Schedule}
use Rattle.runs.proofs.rounds.ask.Goals as goal

pub returns-in-InTurn-clause-driven : goal.returns-in-InTurn-clause-driven
returns-in-InTurn-clause-driven g c =
    subst (λ (s : Schedule). OnOk c.turns.result (IsDrivenBy g.M.Model.meaning g.P.Port.state g.D.SectorDisk.state (trusts_by c.args.round.plan) (Tallied c.args.round.plan (AreAsked s c.args.round c.args.tally.now.outstanding.items) c.args.tally.now c.turns.new.tally) c.args.session.now c.turns.new.session))
    (sym c.in-InTurn.is) c.turns.ensures.driven

pub returns-in-InTurn-clause-refused : goal.returns-in-InTurn-clause-refused
returns-in-InTurn-clause-refused g c = λ fault is.
    subst (λ (s : Schedule). IsRefusedIn g.M.Model.meaning g.P.Port.state g.D.SectorDisk.state (AreAsked s c.args.round c.args.tally.now.outstanding.items) c.args.session.now c.turns.new.session fault) (sym c.in-InTurn.is) (c.turns.ensures.refused fault is)
