use Rattle.std.proofs.Common.{◌≡◌, ◌∙◌, List}
use Rattle.std.proofs.Common.{ℕ, Option, subst}
use Rattle.runs.specs.Driver.{IsRefusedIn, IsRound, Made, closing_of, reported_since, steps_of}
use Rattle.runs.specs.Tallies.{IsTallied}
use Rattle.runs.proofs.Counts.{round_made}
use Rattle.runs.proofs.Drives.{driven_so, on_ok, then_after, then_represents}
use Rattle.runs.proofs.Refused.{after_asked, passed_on, refused_after, refused_first}
use Rattle.runs.proofs.Counts.{round_shape}
use Rattle.runs.specs.Driver.{AreAsked}
use Rattle.runs.proofs.rounds.make_round.Goals as goal

pub returns-clause-driven : goal.returns-clause-driven
returns-clause-driven g c = λ reported is.
    let asked = c.in_ok-ask.ensures.driven in
    on_ok c.close.result
    (then_after g.M.Model.meaning g.P.Port.state g.D.SectorDisk.state _
    (λ (made : List Made). (steps_of made ≡ closing_of c.args.round (reported_since reported asked.steps) c.ask.new.tally.floor c.ask.new.tally.commits) × IsTallied c.args.round.plan c.ask.new.tally c.close.new.tally made)
    (λ (made : List Made). IsRound c.args.round reported c.args.tally.now.commits c.args.tally.now.outstanding.items made × IsTallied c.args.round.plan c.args.tally.now c.close.new.tally made)
    c.args.session.now c.ask.new.session c.close.new.session asked
    (λ ls closed. round_made c.args.round reported c.args.tally.now c.begin_round.new.self c.ask.new.tally c.close.new.tally asked.steps ls
    c.begin_round.ensures.floor c.begin_round.ensures.events_until_commit c.begin_round.ensures.commits c.begin_round.ensures.outstanding c.begin_round.ensures.budgets c.begin_round.ensures.handled c.ask.ensures.commits asked.shape closed))
    (c.close.ensures.driven (reported_since reported asked.steps) (asked.shape.tally.events_until_commit reported (c.begin_round.ensures.events_until_commit ∙ is)))

pub returns-clause-keeps : goal.returns-clause-keeps
returns-clause-keeps g c =
    then_represents g.M.Model.meaning g.P.Port.state g.D.SectorDisk.state c.args.session.now c.ask.new.session c.close.new.session
    (driven_so g.M.Model.meaning g.P.Port.state g.D.SectorDisk.state _ c.args.session.now c.ask.new.session c.in_ok-ask.ensures.driven) c.close.ensures.keeps

pub returns-in_err-ask-clause-refused : goal.returns-in_err-ask-clause-refused
returns-in_err-ask-clause-refused g c = λ reported is fault e.
    let outstanding = c.args.tally.now.outstanding.items in
    let asked = c.in_err-ask.ensures.refused fault (passed_on c.from_residual.result c.in_err-ask.field-0.0 fault c.from_residual.ensures.1 e) in
    refused_first g.M.Model.meaning g.P.Port.state g.D.SectorDisk.state (AreAsked c.args.round.plan.schedule c.args.round outstanding) (IsRound c.args.round reported c.args.tally.now.commits outstanding) c.args.session.now c.ask.new.session fault (after_asked c.args.round reported c.args.tally.now.commits outstanding)
    (subst (λ (o : List (Option ℕ)). IsRefusedIn g.M.Model.meaning g.P.Port.state g.D.SectorDisk.state (AreAsked c.args.round.plan.schedule c.args.round o) c.args.session.now c.ask.new.session fault) c.begin_round.ensures.outstanding asked)

pub returns-clause-refused : goal.returns-clause-refused
returns-clause-refused g c = λ reported is fault e.
    let asked = c.in_ok-ask.ensures.driven in
    refused_after g.M.Model.meaning g.P.Port.state g.D.SectorDisk.state _ (λ (made : List Made). steps_of made ≡ closing_of c.args.round (reported_since reported asked.steps) c.ask.new.tally.floor c.ask.new.tally.commits) (IsRound c.args.round reported c.args.tally.now.commits c.args.tally.now.outstanding.items)
    c.args.session.now c.ask.new.session c.close.new.session fault asked
    (λ ls closed. round_shape c.args.round reported c.args.tally.now c.begin_round.new.self c.ask.new.tally asked.steps ls c.begin_round.ensures.floor c.begin_round.ensures.commits c.begin_round.ensures.outstanding c.ask.ensures.commits asked.shape closed)
    (c.close.ensures.refused (reported_since reported asked.steps) (asked.shape.tally.events_until_commit reported (c.begin_round.ensures.events_until_commit ∙ is)) fault e)
