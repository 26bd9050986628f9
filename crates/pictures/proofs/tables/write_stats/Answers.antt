use Rattle.std.proofs.Common.{codes, flat_map, []}
use Rattle.pictures.specs.Tables.{busy_numbers, columns_text, spread_numbers}
use Rattle.pictures.specs.declared.counted.Busy.{Busy}
use Rattle.pictures.specs.declared.tables.TheConstants.{BUSIEST, SPREADS}
use Rattle.eventkey.proofs.Writers.{writes_failed, writes_no_more, writes_then}
use Rattle.pictures.proofs.tables.write_stats.Goals as goal

pub returns-in_err-write_summary : goal.returns-in_err-write_summary
returns-in_err-write_summary g c =
    let failed = c.from_residual.ensures.0 in
    writes_no_more (flat_map (λ (b : Busy). columns_text [] (busy_numbers b)) c.args.figures.now.busiest) (writes_no_more (BUSIEST.now) (writes_no_more (columns_text (codes "delay     ") (spread_numbers c.args.figures.now.delay)) (writes_no_more (columns_text (codes "sent      ") (spread_numbers c.args.figures.now.sent)) (writes_no_more (columns_text (codes "handled   ") (spread_numbers c.args.figures.now.handled)) (writes_failed c.from_residual.result (SPREADS.now) c.write_summary.ensures c.in_err-write_summary.was failed) failed) failed) failed) failed) failed

pub returns-in_err-write_text : goal.returns-in_err-write_text
returns-in_err-write_text g c =
    let failed = c.from_residual-in_err-write_text.ensures.0 in
    writes_no_more (flat_map (λ (b : Busy). columns_text [] (busy_numbers b)) c.args.figures.now.busiest) (writes_no_more (BUSIEST.now) (writes_no_more (columns_text (codes "delay     ") (spread_numbers c.args.figures.now.delay)) (writes_no_more (columns_text (codes "sent      ") (spread_numbers c.args.figures.now.sent)) (writes_failed c.from_residual-in_err-write_text.result (columns_text (codes "handled   ") (spread_numbers c.args.figures.now.handled)) (writes_then c.write_summary.ensures c.in_ok-write_summary.was c.write_text.ensures) c.in_err-write_text.was failed) failed) failed) failed) failed

pub returns-in_err-write_spread : goal.returns-in_err-write_spread
returns-in_err-write_spread g c =
    let failed = c.from_residual-in_err-write_spread.ensures.0 in
    writes_no_more (flat_map (λ (b : Busy). columns_text [] (busy_numbers b)) c.args.figures.now.busiest) (writes_no_more (BUSIEST.now) (writes_no_more (columns_text (codes "delay     ") (spread_numbers c.args.figures.now.delay)) (writes_failed c.from_residual-in_err-write_spread.result (columns_text (codes "sent      ") (spread_numbers c.args.figures.now.sent)) (writes_then (writes_then c.write_summary.ensures c.in_ok-write_summary.was c.write_text.ensures) c.in_ok-write_text.was c.write_spread.ensures) c.in_err-write_spread.was failed) failed) failed) failed

pub returns-in_err-write_spread-2 : goal.returns-in_err-write_spread-2
returns-in_err-write_spread-2 g c =
    let failed = c.from_residual-in_err-write_spread-2.ensures.0 in
    writes_no_more (flat_map (λ (b : Busy). columns_text [] (busy_numbers b)) c.args.figures.now.busiest) (writes_no_more (BUSIEST.now) (writes_failed c.from_residual-in_err-write_spread-2.result (columns_text (codes "delay     ") (spread_numbers c.args.figures.now.delay)) (writes_then (writes_then (writes_then c.write_summary.ensures c.in_ok-write_summary.was c.write_text.ensures) c.in_ok-write_text.was c.write_spread.ensures) c.in_ok-write_spread.was c.write_spread-2.ensures) c.in_err-write_spread-2.was failed) failed) failed

pub returns-in_err-write_spread-3 : goal.returns-in_err-write_spread-3
returns-in_err-write_spread-3 g c =
    let failed = c.from_residual-in_err-write_spread-3.ensures.0 in
    writes_no_more (flat_map (λ (b : Busy). columns_text [] (busy_numbers b)) c.args.figures.now.busiest) (writes_failed c.from_residual-in_err-write_spread-3.result (BUSIEST.now) (writes_then (writes_then (writes_then (writes_then c.write_summary.ensures c.in_ok-write_summary.was c.write_text.ensures) c.in_ok-write_text.was c.write_spread.ensures) c.in_ok-write_spread.was c.write_spread-2.ensures) c.in_ok-write_spread-2.was c.write_spread-3.ensures) c.in_err-write_spread-3.was failed) failed

pub returns-in_err-write_text-2 : goal.returns-in_err-write_text-2
returns-in_err-write_text-2 g c =
    let failed = c.from_residual-in_err-write_text-2.ensures.0 in
    writes_failed c.from_residual-in_err-write_text-2.result (flat_map (λ (b : Busy). columns_text [] (busy_numbers b)) c.args.figures.now.busiest) (writes_then (writes_then (writes_then (writes_then (writes_then c.write_summary.ensures c.in_ok-write_summary.was c.write_text.ensures) c.in_ok-write_text.was c.write_spread.ensures) c.in_ok-write_spread.was c.write_spread-2.ensures) c.in_ok-write_spread-2.was c.write_spread-3.ensures) c.in_ok-write_spread-3.was c.write_text-2.ensures) c.in_err-write_text-2.was failed

pub returns : goal.returns
returns g c =
    rw c.as_slice.ensures at (writes_then (writes_then (writes_then (writes_then (writes_then (writes_then c.write_summary.ensures c.in_ok-write_summary.was c.write_text.ensures) c.in_ok-write_text.was c.write_spread.ensures) c.in_ok-write_spread.was c.write_spread-2.ensures) c.in_ok-write_spread-2.was c.write_spread-3.ensures) c.in_ok-write_spread-3.was c.write_text-2.ensures) c.in_ok-write_text-2.was c.write_busiest.ensures)
