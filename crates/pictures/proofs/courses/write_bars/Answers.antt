use Rattle.std.proofs.Common.{codes}
use Rattle.eventkey.proofs.Writers.{writes_failed, writes_no_more, writes_then}
use Rattle.pictures.specs.Course.{bar_text}
use Rattle.pictures.proofs.courses.write_bars.Goals as goal

pub returns-in_err-write_bar : goal.returns-in_err-write_bar
returns-in_err-write_bar g c =
    let failed = c.from_residual.ensures.0 in
    writes_no_more (bar_text (codes "commit") c.args.bars.now.commit) (writes_no_more (bar_text (codes "antimessages") c.args.bars.now.antimessages) (writes_no_more (bar_text (codes "efficiency") c.args.bars.now.efficiency) (writes_failed c.from_residual.result (bar_text (codes "gvt") c.args.bars.now.gvt) c.write_bar.ensures c.in_err-write_bar.was failed) failed) failed) failed

pub returns-in_err-write_bar-2 : goal.returns-in_err-write_bar-2
returns-in_err-write_bar-2 g c =
    let failed = c.from_residual-in_err-write_bar-2.ensures.0 in
    writes_no_more (bar_text (codes "commit") c.args.bars.now.commit) (writes_no_more (bar_text (codes "antimessages") c.args.bars.now.antimessages) (writes_failed c.from_residual-in_err-write_bar-2.result (bar_text (codes "efficiency") c.args.bars.now.efficiency) (writes_then c.write_bar.ensures c.in_ok-write_bar.was c.write_bar-2.ensures) c.in_err-write_bar-2.was failed) failed) failed

pub returns-in_err-write_bar-3 : goal.returns-in_err-write_bar-3
returns-in_err-write_bar-3 g c =
    let failed = c.from_residual-in_err-write_bar-3.ensures.0 in
    writes_no_more (bar_text (codes "commit") c.args.bars.now.commit) (writes_failed c.from_residual-in_err-write_bar-3.result (bar_text (codes "antimessages") c.args.bars.now.antimessages) (writes_then (writes_then c.write_bar.ensures c.in_ok-write_bar.was c.write_bar-2.ensures) c.in_ok-write_bar-2.was c.write_bar-3.ensures) c.in_err-write_bar-3.was failed) failed

pub returns-in_err-write_bar-4 : goal.returns-in_err-write_bar-4
returns-in_err-write_bar-4 g c =
    let failed = c.from_residual-in_err-write_bar-4.ensures.0 in
    writes_failed c.from_residual-in_err-write_bar-4.result (bar_text (codes "commit") c.args.bars.now.commit) (writes_then (writes_then (writes_then c.write_bar.ensures c.in_ok-write_bar.was c.write_bar-2.ensures) c.in_ok-write_bar-2.was c.write_bar-3.ensures) c.in_ok-write_bar-3.was c.write_bar-4.ensures) c.in_err-write_bar-4.was failed

pub returns : goal.returns
returns g c = writes_then (writes_then (writes_then (writes_then c.write_bar.ensures c.in_ok-write_bar.was c.write_bar-2.ensures) c.in_ok-write_bar-2.was c.write_bar-3.ensures) c.in_ok-write_bar-3.was c.write_bar-4.ensures) c.in_ok-write_bar-4.was c.write_bar-5.ensures
