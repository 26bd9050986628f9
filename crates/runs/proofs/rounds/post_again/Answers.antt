use Rattle.std.proofs.Common.{Bool, [], false, refl, subst}
use Rattle.runs.specs.Driver.{IsDrivenBy, IsPostIf, IsRefusedIn, trusts_by}
use Rattle.runs.specs.Tallies.{Tallied}
use Rattle.runs.proofs.Counts.{no_move}
use Rattle.runs.proofs.Drives.{stood-keeps, stood_by}
use Rattle.runs.proofs.Refused.{passed_on}
use Rattle.runs.proofs.rounds.post_again.Goals as goal

pub returns-in_ok-post-clause-driven : goal.returns-in_ok-post-clause-driven
returns-in_ok-post-clause-driven g c =
    subst (λ (b : Bool). IsDrivenBy g.M.Model.meaning g.P.Port.state g.D.SectorDisk.state (trusts_by c.args.round.plan) (Tallied c.args.round.plan (IsPostIf b c.args.round.plan c.args.node) c.args.tally.now c.post.new.tally) c.args.session.now c.post.new.session) c.if-goes_on.ensures c.in_ok-post.ensures.driven

pub returns-else-goes_on-clause-driven : goal.returns-else-goes_on-clause-driven
returns-else-goes_on-clause-driven g c =
    stood_by g.M.Model.meaning g.P.Port.state g.D.SectorDisk.state _ c.args.session.now
    (subst (λ (b : Bool). Tallied c.args.round.plan (IsPostIf b c.args.round.plan c.args.node) c.args.tally.now c.args.tally.now []) c.if-goes_on.ensures (no_move c.args.round.plan (IsPostIf false c.args.round.plan c.args.node) c.args.tally.now refl))

pub returns-in_err-post-clause-refused : goal.returns-in_err-post-clause-refused
returns-in_err-post-clause-refused g c = λ fault is.
    subst (λ (b : Bool). IsRefusedIn g.M.Model.meaning g.P.Port.state g.D.SectorDisk.state (IsPostIf b c.args.round.plan c.args.node) c.args.session.now c.post.new.session fault) c.if-goes_on.ensures
    (c.in_err-post.ensures.refused fault (passed_on c.from_residual.result c.in_err-post.field-0.0 fault c.from_residual.ensures.1 is))

pub returns-else-goes_on-clause-keeps : goal.returns-else-goes_on-clause-keeps
returns-else-goes_on-clause-keeps g c = stood-keeps g.M.Model.meaning g.P.Port.state g.D.SectorDisk.state (trusts_by c.args.round.plan) c.args.session.now
