use Rattle.std.proofs.Common.{◌≡◌, ◌+◌, [], ◌∷◌, arith, refl, subst}
use Rattle.gvt.specs.Moves.Move.{Take}
use Rattle.runs.specs.Driver.{IsDrivenBy, moves_of, takes_of, trusts_by}
use Rattle.runs.specs.Tallies.{Tallied}
use Rattle.runs.proofs.Counts.{both_tallied, no_move}
use Rattle.runs.proofs.Drives.{driven_so, driven_represents, stood_by, then_by, then_represents}
use Rattle.runs.proofs.Shapes.{one_take_more}
use Rattle.runs.proofs.Refused.{passed_on, refused_within, takes_more}
use Rattle.runs.proofs.rounds.take_all.Goals as goal

pub nodes-init : goal.nodes-init
nodes-init g c = record {
  driven = stood_by g.M.Model.meaning g.P.Port.state g.D.SectorDisk.state _ c.args.session.now (no_move c.args.round.plan (λ taken. moves_of taken ≡ takes_of 0) c.args.tally.now refl);
  commits = refl;
  sized = c.requires.sized;
}

pub returns-in_err-take-clause-keeps : goal.returns-in_err-take-clause-keeps
returns-in_err-take-clause-keeps g c =
    then_represents g.M.Model.meaning g.P.Port.state g.D.SectorDisk.state c.args.session.now c.nodes.session c.take.new.session
    (driven_so g.M.Model.meaning g.P.Port.state g.D.SectorDisk.state _ c.args.session.now c.nodes.session c.nodes.invariant.driven) c.in_err-take.ensures.keeps

pub nodes-preserved : goal.nodes-preserved
nodes-preserved g c = record {
  driven = then_by g.M.Model.meaning g.P.Port.state g.D.SectorDisk.state _ _ _ c.args.session.now c.nodes.session c.take.new.session
      (both_tallied c.args.round.plan (λ taken. moves_of taken ≡ takes_of c.nodes.node) (λ taken. moves_of taken ≡ Take c.nodes.node ∷ []) (λ taken. moves_of taken ≡ takes_of (c.nodes.node + 1)) c.args.tally.now c.nodes.tally c.take.new.tally (one_take_more c.nodes.node))
      c.nodes.invariant.driven c.in_ok-take.ensures.driven;
  commits = omega (arith, c.take.ensures.commits, c.nodes.invariant.commits);
  sized = c.take.ensures.sized;
}

pub returns-clause-driven : goal.returns-clause-driven
returns-clause-driven g c =
    let whole : c.nodes.node ≡ c.args.round.plan.nodes = omega (arith, c.nodes-test.false, c.nodes.auto.node-end) in
    subst (λ n. IsDrivenBy g.M.Model.meaning g.P.Port.state g.D.SectorDisk.state (trusts_by c.args.round.plan) (Tallied c.args.round.plan (λ taken. moves_of taken ≡ takes_of n) c.args.tally.now c.nodes.tally) c.args.session.now c.nodes.session) whole c.nodes.invariant.driven

pub returns-clause-keeps : goal.returns-clause-keeps
returns-clause-keeps g c = driven_represents g.M.Model.meaning g.P.Port.state g.D.SectorDisk.state c.args.session.now c.nodes.session (driven_so g.M.Model.meaning g.P.Port.state g.D.SectorDisk.state _ c.args.session.now c.nodes.session c.nodes.invariant.driven)

pub returns-in_err-take-clause-refused : goal.returns-in_err-take-clause-refused
returns-in_err-take-clause-refused g c = λ fault is.
    refused_within g.M.Model.meaning g.P.Port.state g.D.SectorDisk.state (λ n taken. moves_of taken ≡ takes_of n) (λ taken. moves_of taken ≡ Take c.nodes.node ∷ []) c.nodes.node c.args.round.plan.nodes c.args.session.now c.nodes.session c.take.new.session fault c.nodes-test.true takes_more (λ ks ls same. one_take_more c.nodes.node ks ls) c.nodes.invariant.driven (c.in_err-take.ensures.refused fault (passed_on c.from_residual.result c.in_err-take.field-0.0 fault c.from_residual.ensures.1 is))
