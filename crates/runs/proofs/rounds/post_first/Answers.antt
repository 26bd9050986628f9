use Rattle.std.proofs.Common.{Bool, [], false, refl, subst, sym}
use Rattle.runs.specs.Driver.{AreFirst, IsDrivenBy, IsRefusedIn, trusts_by}
use Rattle.runs.specs.Tallies.{Tallied}
use Rattle.runs.proofs.Counts.{no_move}
use Rattle.runs.proofs.Drives.{stood-keeps, stood_by}
use Rattle.runs.proofs.Refused.{passed_on}
use Rattle.runs.proofs.rounds.post_first.Goals as goal

pub returns-in_ok-post_all-clause-driven : goal.returns-in_ok-post_all-clause-driven
returns-in_ok-post_all-clause-driven g c =
    subst (λ (b : Bool). IsDrivenBy g.M.Model.meaning g.P.Port.state g.D.SectorDisk.state (trusts_by c.args.round.plan) (Tallied c.args.round.plan (AreFirst b c.args.round.plan) c.args.tally.now c.post_all.new.tally) c.args.session.now c.post_all.new.session) (sym c.if-round.true) c.in_ok-post_all.ensures.driven

pub returns-else-round-clause-driven : goal.returns-else-round-clause-driven
returns-else-round-clause-driven g c =
    stood_by g.M.Model.meaning g.P.Port.state g.D.SectorDisk.state _ c.args.session.now
    (subst (λ (b : Bool). Tallied c.args.round.plan (AreFirst b c.args.round.plan) c.args.tally.now c.args.tally.now []) (sym c.if-round.false) (no_move c.args.round.plan (AreFirst false c.args.round.plan) c.args.tally.now refl))

pub returns-in_err-post_all-clause-refused : goal.returns-in_err-post_all-clause-refused
returns-in_err-post_all-clause-refused g c = λ fault is.
    subst (λ (b : Bool). IsRefusedIn g.M.Model.meaning g.P.Port.state g.D.SectorDisk.state (AreFirst b c.args.round.plan) c.args.session.now c.post_all.new.session fault) (sym c.if-round.true)
    (c.in_err-post_all.ensures.refused fault (passed_on c.from_residual.result c.in_err-post_all.field-0.0 fault c.from_residual.ensures.1 is))

pub returns-else-round-clause-keeps : goal.returns-else-round-clause-keeps
returns-else-round-clause-keeps g c = stood-keeps g.M.Model.meaning g.P.Port.state g.D.SectorDisk.state (trusts_by c.args.round.plan) c.args.session.now
