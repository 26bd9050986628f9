use Rattle.std.proofs.Common.{drop, map, ◌+◌, arith}
use Rattle.upkeep.specs.Text.{line}
use Rattle.eventkey.proofs.Writers.{writes_broken, written_next, written_none}
use Rattle.upkeep.proofs.Lines.{line-drop, line_done, writes_rest}
use Rattle.upkeep.proofs.inspection.writing.write_line.Goals as goal

pub loop-before-init : goal.loop-before-init
loop-before-init g c = written_none (g.W.Write.contents c.args.out.now) (line (map (λ fact. (fact.0.now, fact.1)) c.args.facts.now) c.args.last.now)

pub returns-in_err-write_number : goal.returns-in_err-write_number
returns-in_err-write_number g c =
    writes_broken (line (map (λ fact. (fact.0.now, fact.1)) (drop (c.loop-before.before-index + 1) c.args.facts.now)) c.args.last.now) c.from_residual.result c.loop-before.invariant
    (line-drop (λ fact. (fact.0.now, fact.1)) c.args.last.now c.args.facts.now c.loop-before.before-index _ (omega arith))
    c.write_number.ensures c.in_err-write_number.was c.from_residual.ensures.0

pub loop-before-preserved : goal.loop-before-preserved
loop-before-preserved g c =
    written_next (line (map (λ fact. (fact.0.now, fact.1)) (drop (c.loop-before.before-index + 1) c.args.facts.now)) c.args.last.now) c.loop-before.invariant
    (line-drop (λ fact. (fact.0.now, fact.1)) c.args.last.now c.args.facts.now c.loop-before.before-index _ (omega arith))
    c.write_number.ensures c.in_ok-write_number.was

pub returns : goal.returns
returns g c = writes_rest c.write_text.result c.loop-before.invariant (line_done (λ fact. (fact.0.now, fact.1)) c.args.last.now c.args.facts.now c.loop-before.before-index (omega arith)) c.write_text.ensures
