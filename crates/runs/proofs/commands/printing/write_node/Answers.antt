use Rattle.std.proofs.Common.{codes, decimal, ◌++◌}
use Rattle.eventkey.proofs.Writers.{writes_failed, writes_no_more, writes_then}
use Rattle.runs.proofs.commands.printing.write_node.Goals as goal

pub returns-in_err-write_number : goal.returns-in_err-write_number
returns-in_err-write_number g c =
    writes_no_more (codes "\n") (writes_failed c.from_residual.result (codes " ran " ++ decimal c.args.handled) c.write_number.ensures c.in_err-write_number.was c.from_residual.ensures.0) c.from_residual.ensures.0

pub returns-in_err-write_number-2 : goal.returns-in_err-write_number-2
returns-in_err-write_number-2 g c =
    writes_failed c.from_residual-in_err-write_number-2.result (codes "\n") (writes_then c.write_number.ensures c.in_ok-write_number.was c.write_number-2.ensures) c.in_err-write_number-2.was c.from_residual-in_err-write_number-2.ensures.0

pub returns : goal.returns
returns g c = writes_then (writes_then c.write_number.ensures c.in_ok-write_number.was c.write_number-2.ensures) c.in_ok-write_number-2.was c.write_text.ensures
