use Rattle.eventkey.proofs.Writers.{writes_failed, writes_then}
use Rattle.disk_commands.specs.Repairing.{stop_text}
use Rattle.disk_commands.proofs.repairing.write_salvaged.Goals as goal

pub returns-in_err-write_row : goal.returns-in_err-write_row
returns-in_err-write_row g c = writes_failed c.from_residual.result (stop_text c.args.salvaged) c.write_row.ensures c.in_err-write_row.was c.from_residual.ensures.0

pub returns : goal.returns
returns g c = writes_then c.write_row.ensures c.in_ok-write_row.was c.write_stop.ensures
