use Rattle.std.proofs.Common.{codes}
use Rattle.eventkey.proofs.Writers.{writes_failed, writes_then}
use Rattle.disk_commands.specs.Repairing.{seen_text}
use Rattle.disk_commands.proofs.repairing.write_row.Goals as goal

pub returns-in_err-write_numbers : goal.returns-in_err-write_numbers
returns-in_err-write_numbers g c =
    writes_failed c.from_residual.result (seen_text (codes " whole records: committed ") c.args.salvaged.seen.time c.args.salvaged.seen.events) c.write_numbers.ensures c.in_err-write_numbers.was c.from_residual.ensures.0

pub returns : goal.returns
returns g c = writes_then c.write_numbers.ensures c.in_ok-write_numbers.was c.write_seen.ensures
