use Rattle.std.proofs.Common.{codes}
use Rattle.eventkey.proofs.Writers.{writes_as, writes_failed, writes_no_more, writes_then}
use Rattle.disk_commands.specs.Repairing.{reason_of}
use Rattle.disk_commands.proofs.repairing.write_stop.Goals as goal

pub returns-in_err-write_number : goal.returns-in_err-write_number
returns-in_err-write_number g c =
    let failed = c.from_residual.ensures.0 in
    writes_no_more (codes "\n") (writes_failed c.from_residual.result (reason_of c.args.salvaged.stop c.args.salvaged.is_open) c.write_number.ensures c.in_err-write_number.was failed) failed

pub returns-in_err-write_text : goal.returns-in_err-write_text
returns-in_err-write_text g c =
    writes_as (writes_failed c.from_residual-in_err-write_text.result (codes "\n")
    (writes_then c.write_number.ensures c.in_ok-write_number.was c.write_text.ensures)
    c.in_err-write_text.was c.from_residual-in_err-write_text.ensures.0) (rw c.reason_of.ensures)

pub returns : goal.returns
returns g c =
    writes_as (writes_then (writes_then c.write_number.ensures c.in_ok-write_number.was c.write_text.ensures) c.in_ok-write_text.was c.write_text-2.ensures) (rw c.reason_of.ensures)
