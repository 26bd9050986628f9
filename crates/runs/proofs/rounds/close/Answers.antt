use Rattle.std.proofs.Common.{◌≡◌, ◌+◌, Bool, List, [], ◌∷◌, ◌∙◌, ap, cond}
use Rattle.runs.specs.Driver.{Made, closing_of, commit_by, kept_after, steps_of, trusts_by}
use Rattle.runs.specs.Tallies.{IsTallied}
use Rattle.runs.proofs.Counts.{due_so, none_tallied}
use Rattle.runs.proofs.Drives.{shaped_by, stood-keeps, stood_by}
use Rattle.runs.proofs.Refused.{passed_on, refused_so}
use Rattle.runs.proofs.rounds.close.Goals as goal

pub returns-in_ok-commit-clause-driven : goal.returns-in_ok-commit-clause-driven
returns-in_ok-commit-clause-driven g c = λ reported is.
    let due = c.if-is_due.ensures ∙ due_so c.args.round.plan c.args.round.end c.args.round.last reported c.args.tally.now.floor c.args.tally.now.events_until_commit c.missing_events-missing.result is c.missing_events-missing.ensures in
    shaped_by g.M.Model.meaning g.P.Port.state g.D.SectorDisk.state
    (λ (made : List Made). (steps_of made ≡ commit_by c.args.round.plan ∷ kept_after c.args.round.plan (c.args.tally.now.commits + 1)) × IsTallied c.args.round.plan c.args.tally.now c.commit.new.tally made)
    (λ (made : List Made). (steps_of made ≡ closing_of c.args.round reported c.args.tally.now.floor c.args.tally.now.commits) × IsTallied c.args.round.plan c.args.tally.now c.commit.new.tally made)
    c.args.session.now c.commit.new.session
    (λ ks h. (h.0 ∙ ap (λ (b : Bool). cond b (commit_by c.args.round.plan ∷ kept_after c.args.round.plan (c.args.tally.now.commits + 1)) []) due, h.1))
    c.in_ok-commit.ensures.driven

pub returns-else-is_due-clause-driven : goal.returns-else-is_due-clause-driven
returns-else-is_due-clause-driven g c = λ reported is.
    let due = c.if-is_due.ensures ∙ due_so c.args.round.plan c.args.round.end c.args.round.last reported c.args.tally.now.floor c.args.tally.now.events_until_commit c.missing_events-missing.result is c.missing_events-missing.ensures in
    stood_by g.M.Model.meaning g.P.Port.state g.D.SectorDisk.state _ c.args.session.now
    (ap (λ (b : Bool). cond b (commit_by c.args.round.plan ∷ kept_after c.args.round.plan (c.args.tally.now.commits + 1)) []) due, none_tallied c.args.round.plan c.args.tally.now)

pub returns-in_err-commit-clause-refused : goal.returns-in_err-commit-clause-refused
returns-in_err-commit-clause-refused g c = λ reported is fault e.
    let due = c.if-is_due.ensures ∙ due_so c.args.round.plan c.args.round.end c.args.round.last reported c.args.tally.now.floor c.args.tally.now.events_until_commit c.missing_events-missing.result is c.missing_events-missing.ensures in
    refused_so g.M.Model.meaning g.P.Port.state g.D.SectorDisk.state (λ (made : List Made). steps_of made ≡ commit_by c.args.round.plan ∷ kept_after c.args.round.plan (c.args.tally.now.commits + 1)) (λ (made : List Made). steps_of made ≡ closing_of c.args.round reported c.args.tally.now.floor c.args.tally.now.commits)
    c.args.session.now c.commit.new.session fault (λ ks h. h ∙ ap (λ (b : Bool). cond b (commit_by c.args.round.plan ∷ kept_after c.args.round.plan (c.args.tally.now.commits + 1)) []) due) (c.in_err-commit.ensures.refused fault (passed_on c.from_residual.result c.in_err-commit.field-0.0 fault c.from_residual.ensures.1 e))

pub returns-else-is_due-clause-keeps : goal.returns-else-is_due-clause-keeps
returns-else-is_due-clause-keeps g c = stood-keeps g.M.Model.meaning g.P.Port.state g.D.SectorDisk.state (trusts_by c.args.round.plan) c.args.session.now
