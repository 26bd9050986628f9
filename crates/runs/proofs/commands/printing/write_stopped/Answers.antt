use Rattle.std.proofs.Common.{codes, decimal, ◌++◌}
use Rattle.eventkey.proofs.Writers.{writes_failed, writes_last, writes_no_more, writes_then, writes_whole, wrote}
use Rattle.runs.proofs.commands.printing.write_stopped.Goals as goal

pub returns-in_err-write_number-clause-written : goal.returns-in_err-write_number-clause-written
returns-in_err-write_number-clause-written g c =
    let failed = c.from_residual.ensures.0 in
    writes_no_more (codes "\n") (writes_failed c.from_residual.result (codes " events " ++ decimal c.args.events) c.write_number.ensures c.in_err-write_number.was failed) failed

pub returns-in_err-write_number-2-clause-written : goal.returns-in_err-write_number-2-clause-written
returns-in_err-write_number-2-clause-written g c =
    writes_failed c.from_residual-in_err-write_number-2.result (codes "\n")
    (writes_then c.write_number.ensures c.in_ok-write_number.was c.write_number-2.ensures)
    c.in_err-write_number-2.was c.from_residual-in_err-write_number-2.ensures.0

pub returns-in_err-write_text-clause-written : goal.returns-in_err-write_text-clause-written
returns-in_err-write_text-clause-written g c =
    writes_last c.from_residual-in_err-write_text.result
    (writes_then (writes_then c.write_number.ensures c.in_ok-write_number.was c.write_number-2.ensures) c.in_ok-write_number-2.was c.write_text.ensures)
    c.in_err-write_text.was c.from_residual-in_err-write_text.ensures.0

pub returns-in_err-flush-clause-written : goal.returns-in_err-flush-clause-written
returns-in_err-flush-clause-written g c =
    writes_whole (g.O.Write.contents c.args.out.now) (g.O.Write.contents c.write_text.new.out) (g.O.Write.contents c.flush.new.self) _ c.from_residual-in_err-flush.result
    (wrote (writes_then (writes_then c.write_number.ensures c.in_ok-write_number.was c.write_number-2.ensures) c.in_ok-write_number-2.was c.write_text.ensures) c.in_ok-write_text.was)
    c.flush.ensures.bytes

pub returns-clause-written : goal.returns-clause-written
returns-clause-written g c =
    writes_whole (g.O.Write.contents c.args.out.now) (g.O.Write.contents c.write_text.new.out) (g.O.Write.contents c.flush.new.self) _ _
    (wrote (writes_then (writes_then c.write_number.ensures c.in_ok-write_number.was c.write_number-2.ensures) c.in_ok-write_number-2.was c.write_text.ensures) c.in_ok-write_text.was)
    c.flush.ensures.bytes
