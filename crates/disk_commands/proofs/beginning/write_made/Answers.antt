use Rattle.std.proofs.Common.{codes, decimal, ◌++◌}
use Rattle.eventkey.proofs.Writers.{writes_as, writes_failed, writes_no_more, writes_then}
use Rattle.disk_commands.proofs.beginning.write_made.Goals as goal

pub returns-in_err-write_number : goal.returns-in_err-write_number
returns-in_err-write_number g c =
    let failed = c.from_residual.ensures.0 in
    writes_as (writes_no_more (codes "\n") (writes_no_more (codes " events " ++ decimal c.args.events)
    (writes_failed c.from_residual.result (codes " sectors\ngoes on from " ++ decimal c.args.time) c.write_number.ensures c.in_err-write_number.was failed) failed) failed)
    (rw c.from.ensures)

pub returns-in_err-write_number-2 : goal.returns-in_err-write_number-2
returns-in_err-write_number-2 g c =
    let failed = c.from_residual-in_err-write_number-2.ensures.0 in
    writes_as (writes_no_more (codes "\n") (writes_failed c.from_residual-in_err-write_number-2.result (codes " events " ++ decimal c.args.events)
    (writes_then c.write_number.ensures c.in_ok-write_number.was c.write_number-2.ensures)
    c.in_err-write_number-2.was failed) failed)
    (rw c.from.ensures)

pub returns-in_err-write_number-3 : goal.returns-in_err-write_number-3
returns-in_err-write_number-3 g c =
    writes_as (writes_failed c.from_residual-in_err-write_number-3.result (codes "\n")
    (writes_then (writes_then c.write_number.ensures c.in_ok-write_number.was c.write_number-2.ensures) c.in_ok-write_number-2.was c.write_number-3.ensures)
    c.in_err-write_number-3.was c.from_residual-in_err-write_number-3.ensures.0)
    (rw c.from.ensures)

pub returns : goal.returns
returns g c =
    writes_as (writes_then (writes_then (writes_then c.write_number.ensures c.in_ok-write_number.was c.write_number-2.ensures) c.in_ok-write_number-2.was c.write_number-3.ensures)
    c.in_ok-write_number-3.was c.write_text.ensures)
    (rw c.from.ensures)
