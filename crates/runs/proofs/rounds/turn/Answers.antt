use Rattle.std.proofs.Common.{◌≡◌, [], ◌∷◌}
use Rattle.gvt.specs.Moves.Move.{Take}
use Rattle.runs.specs.Driver.{IsPost, IsTurn, moves_of}
use Rattle.runs.proofs.Counts.{both_tallied}
use Rattle.runs.proofs.Drives.{driven_so, on_ok, then_by, then_represents}
use Rattle.runs.proofs.Shapes.{post_then_take}
use Rattle.runs.proofs.Refused.{passed_on, after_post, refused_first, refused_then}
use Rattle.runs.proofs.rounds.turn.Goals as goal

pub returns-clause-driven : goal.returns-clause-driven
returns-clause-driven g c =
    on_ok c.take.result
    (then_by g.M.Model.meaning g.P.Port.state g.D.SectorDisk.state _ _ _ c.args.session.now c.post.new.session c.take.new.session
    (both_tallied c.args.round.plan (IsPost c.args.round.plan c.args.node) (λ taken. moves_of taken ≡ Take c.args.node ∷ []) (IsTurn c.args.round.plan c.args.node) c.args.tally.now c.post.new.tally c.take.new.tally
    (post_then_take c.args.round.plan c.args.node)) c.in_ok-post.ensures.driven) c.take.ensures.driven

pub returns-clause-keeps : goal.returns-clause-keeps
returns-clause-keeps g c =
    then_represents g.M.Model.meaning g.P.Port.state g.D.SectorDisk.state c.args.session.now c.post.new.session c.take.new.session
    (driven_so g.M.Model.meaning g.P.Port.state g.D.SectorDisk.state _ c.args.session.now c.post.new.session c.in_ok-post.ensures.driven) c.take.ensures.keeps

pub returns-in_err-post-clause-refused : goal.returns-in_err-post-clause-refused
returns-in_err-post-clause-refused g c = λ fault is. refused_first g.M.Model.meaning g.P.Port.state g.D.SectorDisk.state (IsPost c.args.round.plan c.args.node) (IsTurn c.args.round.plan c.args.node) c.args.session.now c.post.new.session fault (after_post c.args.round.plan c.args.node) (c.in_err-post.ensures.refused fault (passed_on c.from_residual.result c.in_err-post.field-0.0 fault c.from_residual.ensures.1 is))

pub returns-clause-refused : goal.returns-clause-refused
returns-clause-refused g c = λ fault is.
    refused_then g.M.Model.meaning g.P.Port.state g.D.SectorDisk.state (IsPost c.args.round.plan c.args.node) (λ taken. moves_of taken ≡ Take c.args.node ∷ []) (IsTurn c.args.round.plan c.args.node) c.args.session.now c.post.new.session c.take.new.session fault (post_then_take c.args.round.plan c.args.node) c.in_ok-post.ensures.driven
    (c.take.ensures.refused fault is)
