use Rattle.runs.specs.Driver.{AreAsked, AreFirst, AreNext}
use Rattle.runs.specs.declared.rounds.Schedule.TheVariants.{Overlapped}
use Rattle.runs.proofs.Counts.{both_after}
use Rattle.runs.proofs.Drives.{driven_so, on_ok, then_by, then_represents}
use Rattle.runs.proofs.Shapes.{first_then_next}
use Rattle.runs.proofs.Refused.{passed_on, after_first, refused_first, refused_next}
use Rattle.runs.proofs.rounds.overlapped.Goals as goal

pub returns-clause-driven : goal.returns-clause-driven
returns-clause-driven g c =
    let outstanding = c.args.tally.now.outstanding.items in
    let now = c.post_first.new.tally.outstanding.items in
    on_ok c.next_turns.result
    (then_by g.M.Model.meaning g.P.Port.state g.D.SectorDisk.state _ _ _ c.args.session.now c.post_first.new.session c.next_turns.new.session
    (both_after c.args.round.plan (AreFirst c.args.round.first c.args.round.plan) (AreNext c.args.round now c.args.round.plan.nodes) (AreAsked Overlapped c.args.round outstanding) c.args.tally.now c.post_first.new.tally c.next_turns.new.tally
    (first_then_next c.args.round outstanding now)) c.in_ok-post_first.ensures.driven) c.next_turns.ensures.driven

pub returns-clause-keeps : goal.returns-clause-keeps
returns-clause-keeps g c =
    then_represents g.M.Model.meaning g.P.Port.state g.D.SectorDisk.state c.args.session.now c.post_first.new.session c.next_turns.new.session
    (driven_so g.M.Model.meaning g.P.Port.state g.D.SectorDisk.state _ c.args.session.now c.post_first.new.session c.in_ok-post_first.ensures.driven) c.next_turns.ensures.keeps

pub returns-in_err-post_first-clause-refused : goal.returns-in_err-post_first-clause-refused
returns-in_err-post_first-clause-refused g c = λ fault is.
    let outstanding = c.args.tally.now.outstanding.items in
    refused_first g.M.Model.meaning g.P.Port.state g.D.SectorDisk.state (AreFirst c.args.round.first c.args.round.plan) (AreAsked Overlapped c.args.round outstanding) c.args.session.now c.post_first.new.session fault (after_first c.args.round outstanding)
    (c.in_err-post_first.ensures.refused fault (passed_on c.from_residual.result c.in_err-post_first.field-0.0 fault c.from_residual.ensures.1 is))

pub returns-clause-refused : goal.returns-clause-refused
returns-clause-refused g c = λ fault is.
    let outstanding = c.args.tally.now.outstanding.items in
    let now = c.post_first.new.tally.outstanding.items in
    refused_next g.M.Model.meaning g.P.Port.state g.D.SectorDisk.state (AreFirst c.args.round.first c.args.round.plan) (AreNext c.args.round now c.args.round.plan.nodes) (AreAsked Overlapped c.args.round outstanding) c.args.session.now c.post_first.new.session c.next_turns.new.session fault
    (first_then_next c.args.round outstanding now) c.in_ok-post_first.ensures.driven (c.next_turns.ensures.refused fault is)
