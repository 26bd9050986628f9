use Rattle.eventkey.proofs.Writers.{writes_failed, writes_then}
use Rattle.views.specs.Reading.{believed_line}
use Rattle.disk_commands.proofs.repairing.write_taken_over.Goals as goal

pub returns-in_err-write_salvaged : goal.returns-in_err-write_salvaged
returns-in_err-write_salvaged g c = writes_failed c.from_residual.result (believed_line c.args.time) c.write_salvaged.ensures c.in_err-write_salvaged.was c.from_residual.ensures.0

pub returns : goal.returns
returns g c = writes_then c.write_salvaged.ensures c.in_ok-write_salvaged.was c.write_believed_line.ensures
