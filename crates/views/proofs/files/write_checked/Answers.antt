use Rattle.eventkey.proofs.Writers.{writes_failed, writes_then}
use Rattle.views.proofs.files.write_checked.Goals as goal

pub returns-in_err-write_text : goal.returns-in_err-write_text
returns-in_err-write_text g c =
    writes_failed c.from_residual.result c.args.values.now c.write_text.ensures c.in_err-write_text.was c.from_residual.ensures.0

pub returns : goal.returns
returns g c = writes_then c.write_text.ensures c.in_ok-write_text.was c.write_text-2.ensures
