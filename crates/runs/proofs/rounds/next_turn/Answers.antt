use Rattle.std.proofs.Common.{◌≡◌, [], ◌∷◌, ℕ, Option, OnOk, subst}
use Rattle.std.specs.Prelude.{Some}
use Rattle.gvt.specs.Moves.Move.{Take}
use Rattle.runs.specs.Driver.{IsDrivenBy, IsNext, IsPostIf, IsRefusedIn, goes_on, moves_of, trusts_by}
use Rattle.runs.specs.Tallies.{Tallied}
use Rattle.runs.proofs.Counts.{both_tallied}
use Rattle.runs.proofs.Drives.{driven_so, on_ok, stood-keeps, then_by, then_represents}
use Rattle.runs.proofs.Shapes.{take_then_post}
use Rattle.runs.proofs.Refused.{passed_on, after_take, refused_first, refused_then}
use Rattle.runs.proofs.rounds.next_turn.Goals as goal

pub returns-clause-driven : goal.returns-clause-driven
returns-clause-driven g c =
    subst (λ (o : Option ℕ). OnOk c.post_again.result (IsDrivenBy g.M.Model.meaning g.P.Port.state g.D.SectorDisk.state (trusts_by c.args.round.plan) (Tallied c.args.round.plan (IsNext c.args.round c.args.node o) c.args.tally.now c.post_again.new.tally) c.args.session.now c.post_again.new.session)) c.in-Some.ensures
    (on_ok c.post_again.result
    (then_by g.M.Model.meaning g.P.Port.state g.D.SectorDisk.state _ _ _ c.args.session.now c.take.new.session c.post_again.new.session
    (both_tallied c.args.round.plan (λ taken. moves_of taken ≡ Take c.args.node ∷ []) (IsPostIf (goes_on c.args.round c.in-Some.floor) c.args.round.plan c.args.node) (IsNext c.args.round c.args.node (Some c.in-Some.floor)) c.args.tally.now c.take.new.tally c.post_again.new.tally
    (take_then_post c.args.round c.args.node c.in-Some.floor)) c.in_ok-take.ensures.driven) c.post_again.ensures.driven)

pub returns-clause-keeps : goal.returns-clause-keeps
returns-clause-keeps g c =
    then_represents g.M.Model.meaning g.P.Port.state g.D.SectorDisk.state c.args.session.now c.take.new.session c.post_again.new.session
    (driven_so g.M.Model.meaning g.P.Port.state g.D.SectorDisk.state _ c.args.session.now c.take.new.session c.in_ok-take.ensures.driven) c.post_again.ensures.keeps

pub returns-in_err-take-clause-refused : goal.returns-in_err-take-clause-refused
returns-in_err-take-clause-refused g c = λ fault is.
    subst (λ (o : Option ℕ). IsRefusedIn g.M.Model.meaning g.P.Port.state g.D.SectorDisk.state (IsNext c.args.round c.args.node o) c.args.session.now c.take.new.session fault) c.in-Some.ensures
    (refused_first g.M.Model.meaning g.P.Port.state g.D.SectorDisk.state (λ taken. moves_of taken ≡ Take c.args.node ∷ []) (IsNext c.args.round c.args.node (Some c.in-Some.floor)) c.args.session.now c.take.new.session fault (after_take c.args.round c.args.node c.in-Some.floor)
    (c.in_err-take.ensures.refused fault (passed_on c.from_residual.result c.in_err-take.field-0.0 fault c.from_residual.ensures.1 is)))

pub returns-clause-refused : goal.returns-clause-refused
returns-clause-refused g c = λ fault is.
    subst (λ (o : Option ℕ). IsRefusedIn g.M.Model.meaning g.P.Port.state g.D.SectorDisk.state (IsNext c.args.round c.args.node o) c.args.session.now c.post_again.new.session fault) c.in-Some.ensures
    (refused_then g.M.Model.meaning g.P.Port.state g.D.SectorDisk.state (λ taken. moves_of taken ≡ Take c.args.node ∷ []) (IsPostIf (goes_on c.args.round c.in-Some.floor) c.args.round.plan c.args.node) (IsNext c.args.round c.args.node (Some c.in-Some.floor)) c.args.session.now c.take.new.session c.post_again.new.session fault
    (take_then_post c.args.round c.args.node c.in-Some.floor) c.in_ok-take.ensures.driven (c.post_again.ensures.refused fault is))

pub returns-in_default-clause-keeps : goal.returns-in_default-clause-keeps
returns-in_default-clause-keeps g c = stood-keeps g.M.Model.meaning g.P.Port.state g.D.SectorDisk.state (trusts_by c.args.round.plan) c.args.session.now
