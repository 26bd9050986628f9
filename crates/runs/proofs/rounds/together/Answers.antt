use Rattle.std.proofs.Common.{◌≡◌}
use Rattle.runs.specs.Driver.{AreAsked, ArePosts, moves_of, takes_of}
use Rattle.runs.specs.declared.rounds.Schedule.TheVariants.{Together}
use Rattle.runs.proofs.Counts.{both_tallied}
use Rattle.runs.proofs.Drives.{driven_so, on_ok, then_by, then_represents}
use Rattle.runs.proofs.Shapes.{then_takes}
use Rattle.runs.proofs.Refused.{passed_on, after_posts, refused_first, refused_then}
use Rattle.runs.proofs.rounds.together.Goals as goal

pub returns-clause-driven : goal.returns-clause-driven
returns-clause-driven g c =
    on_ok c.take_all.result
    (then_by g.M.Model.meaning g.P.Port.state g.D.SectorDisk.state _ _ _ c.args.session.now c.post_all.new.session c.take_all.new.session
    (both_tallied c.args.round.plan (ArePosts c.args.round.plan c.args.round.plan.nodes) (λ taken. moves_of taken ≡ takes_of c.args.round.plan.nodes) (AreAsked Together c.args.round c.args.tally.now.outstanding.items) c.args.tally.now c.post_all.new.tally c.take_all.new.tally
    (then_takes c.args.round c.args.tally.now.outstanding.items)) c.in_ok-post_all.ensures.driven) c.take_all.ensures.driven

pub returns-clause-keeps : goal.returns-clause-keeps
returns-clause-keeps g c =
    then_represents g.M.Model.meaning g.P.Port.state g.D.SectorDisk.state c.args.session.now c.post_all.new.session c.take_all.new.session
    (driven_so g.M.Model.meaning g.P.Port.state g.D.SectorDisk.state _ c.args.session.now c.post_all.new.session c.in_ok-post_all.ensures.driven) c.take_all.ensures.keeps

pub returns-in_err-post_all-clause-refused : goal.returns-in_err-post_all-clause-refused
returns-in_err-post_all-clause-refused g c = λ fault is.
    refused_first g.M.Model.meaning g.P.Port.state g.D.SectorDisk.state (ArePosts c.args.round.plan c.args.round.plan.nodes) (AreAsked Together c.args.round c.args.tally.now.outstanding.items) c.args.session.now c.post_all.new.session fault (after_posts c.args.round c.args.tally.now.outstanding.items) (c.in_err-post_all.ensures.refused fault (passed_on c.from_residual.result c.in_err-post_all.field-0.0 fault c.from_residual.ensures.1 is))

pub returns-clause-refused : goal.returns-clause-refused
returns-clause-refused g c = λ fault is.
    refused_then g.M.Model.meaning g.P.Port.state g.D.SectorDisk.state (ArePosts c.args.round.plan c.args.round.plan.nodes) (λ taken. moves_of taken ≡ takes_of c.args.round.plan.nodes) (AreAsked Together c.args.round c.args.tally.now.outstanding.items) c.args.session.now c.post_all.new.session c.take_all.new.session fault (then_takes c.args.round c.args.tally.now.outstanding.items) c.in_ok-post_all.ensures.driven (c.take_all.ensures.refused fault is)
