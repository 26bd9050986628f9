use Rattle.eventkey.proofs.Writers.{writes_failed, writes_no_more, writes_then}
use Rattle.upkeep.specs.Text.{events_text, rest_text, records_text, sectors_text}
use Rattle.upkeep.proofs.inspection.writing.write_inspection.Goals as goal

pub returns-in_err-write_time : goal.returns-in_err-write_time
returns-in_err-write_time g c =
    let i = c.args.shown.now in
    let failed = c.from_residual.ensures.0 in
    writes_no_more (rest_text i) (writes_no_more (sectors_text i) (writes_no_more (records_text i)
    (writes_failed c.from_residual.result (events_text i) c.write_time.ensures c.in_err-write_time.was failed) failed) failed) failed

pub returns-in_err-write_events : goal.returns-in_err-write_events
returns-in_err-write_events g c =
    let i = c.args.shown.now in
    let failed = c.from_residual-in_err-write_events.ensures.0 in
    writes_no_more (rest_text i) (writes_no_more (sectors_text i)
    (writes_failed c.from_residual-in_err-write_events.result (records_text i) (writes_then c.write_time.ensures c.in_ok-write_time.was c.write_events.ensures) c.in_err-write_events.was failed) failed) failed

pub returns-in_err-write_records : goal.returns-in_err-write_records
returns-in_err-write_records g c =
    let i = c.args.shown.now in
    let failed = c.from_residual-in_err-write_records.ensures.0 in
    writes_no_more (rest_text i)
    (writes_failed c.from_residual-in_err-write_records.result (sectors_text i)
    (writes_then (writes_then c.write_time.ensures c.in_ok-write_time.was c.write_events.ensures) c.in_ok-write_events.was c.write_records.ensures) c.in_err-write_records.was failed) failed

pub returns-in_err-write_sectors : goal.returns-in_err-write_sectors
returns-in_err-write_sectors g c =
    writes_failed c.from_residual-in_err-write_sectors.result (rest_text c.args.shown.now)
    (writes_then (writes_then (writes_then c.write_time.ensures c.in_ok-write_time.was c.write_events.ensures) c.in_ok-write_events.was c.write_records.ensures) c.in_ok-write_records.was c.write_sectors.ensures)
    c.in_err-write_sectors.was c.from_residual-in_err-write_sectors.ensures.0

pub returns : goal.returns
returns g c =
    writes_then (writes_then (writes_then (writes_then c.write_time.ensures c.in_ok-write_time.was c.write_events.ensures) c.in_ok-write_events.was c.write_records.ensures) c.in_ok-write_records.was c.write_sectors.ensures)
    c.in_ok-write_sectors.was c.write_rest.ensures
