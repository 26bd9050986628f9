use Rattle.std.proofs.Common.{codes, decimal, ◌++◌}
use Rattle.eventkey.proofs.Writers.{writes_as, writes_failed, writes_no_more, writes_then}
use Rattle.disk_commands.proofs.disks.write_growth.Goals as goal

pub returns-in_err-write_number : goal.returns-in_err-write_number
returns-in_err-write_number g c =
    let failed = c.from_residual.ensures.0 in
    writes_as (writes_no_more (codes " sectors\n") (writes_failed c.from_residual.result (codes " to " ++ decimal c.args.sectors) c.write_number.ensures c.in_err-write_number.was failed) failed)
    (rw c.from.ensures)

pub returns-in_err-write_number-2 : goal.returns-in_err-write_number-2
returns-in_err-write_number-2 g c =
    writes_as (writes_failed c.from_residual-in_err-write_number-2.result (codes " sectors\n")
    (writes_then c.write_number.ensures c.in_ok-write_number.was c.write_number-2.ensures)
    c.in_err-write_number-2.was c.from_residual-in_err-write_number-2.ensures.0)
    (rw (c.from.ensures, c.from-2.ensures))

pub returns : goal.returns
returns g c =
    writes_as (writes_then (writes_then c.write_number.ensures c.in_ok-write_number.was c.write_number-2.ensures) c.in_ok-write_number-2.was c.write_text.ensures)
    (rw (c.from.ensures, c.from-2.ensures))
