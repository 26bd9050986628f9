use Rattle.std.proofs.Common.{◌≡◌, ◌+◌, arith, refl, subst}
use Rattle.runs.specs.Driver.{AreNext, IsDrivenBy, IsNext, trusts_by}
use Rattle.std.specs.Prelude.{None, get_or}
use Rattle.runs.specs.Tallies.{Tallied}
use Rattle.runs.proofs.Counts.{both_after, no_move}
use Rattle.runs.proofs.Drives.{driven_so, driven_represents, stood_by, then_by, then_represents}
use Rattle.runs.proofs.Shapes.{one_next_so}
use Rattle.runs.proofs.Refused.{passed_on, refused_within, next_more}
use Rattle.runs.proofs.rounds.next_turns.Goals as goal

pub nodes-init : goal.nodes-init
nodes-init g c = record {
  driven = stood_by g.M.Model.meaning g.P.Port.state g.D.SectorDisk.state _ c.args.session.now (no_move c.args.round.plan (AreNext c.args.round c.args.tally.now.outstanding.items 0) c.args.tally.now refl);
  commits = refl;
  sized = c.requires.sized;
}

pub returns-in_err-next_turn-clause-keeps : goal.returns-in_err-next_turn-clause-keeps
returns-in_err-next_turn-clause-keeps g c =
    then_represents g.M.Model.meaning g.P.Port.state g.D.SectorDisk.state c.args.session.now c.nodes.session c.next_turn.new.session
    (driven_so g.M.Model.meaning g.P.Port.state g.D.SectorDisk.state _ c.args.session.now c.nodes.session c.nodes.invariant.driven) c.in_err-next_turn.ensures.keeps

pub nodes-preserved : goal.nodes-preserved
nodes-preserved g c = record {
  driven = then_by g.M.Model.meaning g.P.Port.state g.D.SectorDisk.state _ _ _ c.args.session.now c.nodes.session c.next_turn.new.session
      (both_after c.args.round.plan (AreNext c.args.round c.args.tally.now.outstanding.items c.nodes.node) (IsNext c.args.round c.nodes.node (get_or c.nodes.tally.outstanding.items c.nodes.node None)) (AreNext c.args.round c.args.tally.now.outstanding.items (c.nodes.node + 1)) c.args.tally.now c.nodes.tally c.next_turn.new.tally (one_next_so c.args.round c.args.tally.now.outstanding.items c.nodes.tally.outstanding.items c.nodes.node))
      c.nodes.invariant.driven c.in_ok-next_turn.ensures.driven;
  commits = omega (arith, c.next_turn.ensures.commits, c.nodes.invariant.commits);
  sized = c.next_turn.ensures.sized;
}

pub returns-clause-driven : goal.returns-clause-driven
returns-clause-driven g c =
    let whole : c.nodes.node ≡ c.args.round.plan.nodes = omega (arith, c.nodes-test.false, c.nodes.auto.node-end) in
    subst (λ n. IsDrivenBy g.M.Model.meaning g.P.Port.state g.D.SectorDisk.state (trusts_by c.args.round.plan) (Tallied c.args.round.plan (AreNext c.args.round c.args.tally.now.outstanding.items n) c.args.tally.now c.nodes.tally) c.args.session.now c.nodes.session) whole c.nodes.invariant.driven

pub returns-clause-keeps : goal.returns-clause-keeps
returns-clause-keeps g c = driven_represents g.M.Model.meaning g.P.Port.state g.D.SectorDisk.state c.args.session.now c.nodes.session (driven_so g.M.Model.meaning g.P.Port.state g.D.SectorDisk.state _ c.args.session.now c.nodes.session c.nodes.invariant.driven)

pub returns-in_err-next_turn-clause-refused : goal.returns-in_err-next_turn-clause-refused
returns-in_err-next_turn-clause-refused g c = λ fault is.
    refused_within g.M.Model.meaning g.P.Port.state g.D.SectorDisk.state (AreNext c.args.round c.args.tally.now.outstanding.items) (IsNext c.args.round c.nodes.node (get_or c.nodes.tally.outstanding.items c.nodes.node None)) c.nodes.node c.args.round.plan.nodes c.args.session.now c.nodes.session c.next_turn.new.session fault c.nodes-test.true (next_more c.args.round c.args.tally.now.outstanding.items) (one_next_so c.args.round c.args.tally.now.outstanding.items c.nodes.tally.outstanding.items c.nodes.node) c.nodes.invariant.driven (c.in_err-next_turn.ensures.refused fault (passed_on c.from_residual.result c.in_err-next_turn.field-0.0 fault c.from_residual.ensures.1 is))
