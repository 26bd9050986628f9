use Rattle.frames.proofs.Turns.{loop_done, loop_ends, loop_fails, loop_goes, loop_starts}
use Rattle.frames.proofs.node_loop.serve_parcels.Goals as goal

pub loop-count-init : goal.loop-count-init
loop-count-init g c = (loop_starts _ _ _ _, c.requires.lps)

pub returns-in_err-turn : goal.returns-in_err-turn
returns-in_err-turn g c = loop_fails _ _ _ _ _ _ _ _ _ _ _ _ c.in_err-turn.field-0.0 c.from_residual.result c.from_residual.ensures.1 c.loop-count-test.true c.loop-count.invariant.0 c.in_err-turn.ensures.known

pub returns-then-not-branch : goal.returns-then-not-branch
returns-then-not-branch g c = loop_ends _ _ _ _ _ _ _ _ _ _ _ _ _ c.if-not-branch.true c.loop-count-test.true c.loop-count.invariant.0 c.in_ok-turn.ensures.known

pub loop-count-preserved : goal.loop-count-preserved
loop-count-preserved g c = (loop_goes _ _ _ _ _ _ _ _ _ _ _ _ c.if-not-branch.false c.loop-count.invariant.0 c.in_ok-turn.ensures.known, c.in_ok-turn.ensures.lps)

pub returns : goal.returns
returns g c = loop_done _ _ _ _ _ _ _ _ _ c.loop-count-test.false c.loop-count.auto.count-end c.loop-count.invariant.0
