use Rattle.std.proofs.Common.{codes, flat_map}
use Rattle.pictures.specs.Tables.{right}
use Rattle.eventkey.proofs.Writers.{writes_failed, writes_no_more, writes_then}
use Rattle.pictures.proofs.tables.write_columns.Goals as goal

pub returns-in_err-write_text : goal.returns-in_err-write_text
returns-in_err-write_text g c =
    let failed = c.from_residual.ensures.0 in
    writes_no_more (codes "\n") (writes_failed c.from_residual.result (flat_map right c.args.numbers.now) c.write_text.ensures c.in_err-write_text.was failed) failed

pub returns-in_err-write_row : goal.returns-in_err-write_row
returns-in_err-write_row g c =
    let failed = c.from_residual-in_err-write_row.ensures.0 in
    writes_failed c.from_residual-in_err-write_row.result (codes "\n") (writes_then c.write_text.ensures c.in_ok-write_text.was c.write_row.ensures) c.in_err-write_row.was failed

pub returns : goal.returns
returns g c =
    writes_then (writes_then c.write_text.ensures c.in_ok-write_text.was c.write_row.ensures) c.in_ok-write_row.was c.write_text-2.ensures
