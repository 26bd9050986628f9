use Rattle.std.proofs.Common.{◌∷◌, []}
use Rattle.eventkey.proofs.Writers.{writes_failed, writes_no_more, writes_then}
use Rattle.pictures.specs.Filled.{filled}
use Rattle.pictures.specs.declared.courses.TheConstants.{BAR_EDGES}
use Rattle.pictures.proofs.courses.write_bar.Goals as goal

pub returns-in_err-write_text : goal.returns-in_err-write_text
returns-in_err-write_text g c =
    let failed = c.from_residual.ensures.0 in
    let bar = c.args.bar.now in
    writes_no_more (filled BAR_EDGES.now (bar.x ∷ bar.y ∷ bar.width ∷ bar.height ∷ [])) (writes_failed c.from_residual.result c.args.class.now c.write_text.ensures c.in_err-write_text.was failed) failed

pub returns-in_err-write_text-2 : goal.returns-in_err-write_text-2
returns-in_err-write_text-2 g c =
    let failed = c.from_residual-in_err-write_text-2.ensures.0 in
    let bar = c.args.bar.now in
    writes_failed c.from_residual-in_err-write_text-2.result (filled BAR_EDGES.now (bar.x ∷ bar.y ∷ bar.width ∷ bar.height ∷ [])) (writes_then c.write_text.ensures c.in_ok-write_text.was c.write_text-2.ensures) c.in_err-write_text-2.was failed

pub returns : goal.returns
returns g c = writes_then (writes_then c.write_text.ensures c.in_ok-write_text.was c.write_text-2.ensures) c.in_ok-write_text-2.was c.write_filled.ensures
