use Rattle.std.proofs.Common.{length}
use Rattle.eventkey.proofs.Writers.{writes_failed, writes_no_more, writes_then}
use Rattle.pictures.specs.Course.{columns_text, foot_text}
use Rattle.pictures.specs.declared.drawn.TheConstants.{STYLE}
use Rattle.pictures.proofs.courses.write_picture.Goals as goal

pub returns-in_err-write_filled : goal.returns-in_err-write_filled
returns-in_err-write_filled g c =
    let failed = c.from_residual.ensures.0 in
    writes_no_more (foot_text c.args.window.now c.args.most (length c.args.rows.now) c.args.whole.now) (writes_no_more (columns_text c.args.rows.now c.args.window.now c.args.whole.now c.args.most) (writes_failed c.from_residual.result (STYLE.now) c.write_filled.ensures c.in_err-write_filled.was failed) failed) failed

pub returns-in_err-write_text : goal.returns-in_err-write_text
returns-in_err-write_text g c =
    let failed = c.from_residual-in_err-write_text.ensures.0 in
    writes_no_more (foot_text c.args.window.now c.args.most (length c.args.rows.now) c.args.whole.now) (writes_failed c.from_residual-in_err-write_text.result (columns_text c.args.rows.now c.args.window.now c.args.whole.now c.args.most) (writes_then c.write_filled.ensures c.in_ok-write_filled.was c.write_text.ensures) c.in_err-write_text.was failed) failed

pub returns-in_err-write_columns : goal.returns-in_err-write_columns
returns-in_err-write_columns g c =
    let failed = c.from_residual-in_err-write_columns.ensures.0 in
    writes_failed c.from_residual-in_err-write_columns.result (foot_text c.args.window.now c.args.most (length c.args.rows.now) c.args.whole.now) (writes_then (writes_then c.write_filled.ensures c.in_ok-write_filled.was c.write_text.ensures) c.in_ok-write_text.was c.write_columns.ensures) c.in_err-write_columns.was failed

pub returns : goal.returns
returns g c =
    writes_then (writes_then (writes_then c.write_filled.ensures c.in_ok-write_filled.was c.write_text.ensures) c.in_ok-write_text.was c.write_columns.ensures) c.in_ok-write_columns.was c.write_foot.ensures
