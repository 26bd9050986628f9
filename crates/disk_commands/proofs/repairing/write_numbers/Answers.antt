use Rattle.std.proofs.Common.{codes, decimal, ◌++◌}
use Rattle.eventkey.proofs.Writers.{writes_failed, writes_then}
use Rattle.disk_commands.proofs.repairing.write_numbers.Goals as goal

pub returns-in_err-write_number : goal.returns-in_err-write_number
returns-in_err-write_number g c = writes_failed c.from_residual.result (codes " of " ++ decimal c.args.salvaged.whole) c.write_number.ensures c.in_err-write_number.was c.from_residual.ensures.0

pub returns : goal.returns
returns g c = writes_then c.write_number.ensures c.in_ok-write_number.was c.write_number-2.ensures
