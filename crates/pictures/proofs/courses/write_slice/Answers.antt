use Rattle.std.proofs.Common.{ap, codes}
use Rattle.eventkey.proofs.Writers.{writes_as, writes_failed, writes_no_more, writes_then}
use Rattle.pictures.specs.Course.{bars_of, bars_text}
use Rattle.pictures.proofs.courses.write_slice.Goals as goal

pub returns-in_err-write_title : goal.returns-in_err-write_title
returns-in_err-write_title g c =
    let failed = c.from_residual.ensures.0 in
    writes_no_more (codes "</g>\n") (writes_failed c.from_residual.result (bars_text (bars_of c.args.window.now c.args.gvt c.args.most c.args.place c.args.slice.now)) c.write_title.ensures c.in_err-write_title.was failed) failed

pub returns-in_err-write_bars : goal.returns-in_err-write_bars
returns-in_err-write_bars g c =
    let failed = c.from_residual-in_err-write_bars.ensures.0 in
    let bars = writes_as c.write_bars.ensures (ap bars_text c.bars_at-bars.ensures) in
    writes_failed c.from_residual-in_err-write_bars.result (codes "</g>\n") (writes_then c.write_title.ensures c.in_ok-write_title.was bars) c.in_err-write_bars.was failed

pub returns : goal.returns
returns g c =
    let bars = writes_as c.write_bars.ensures (ap bars_text c.bars_at-bars.ensures) in
    writes_then (writes_then c.write_title.ensures c.in_ok-write_title.was bars) c.in_ok-write_bars.was c.write_text.ensures
