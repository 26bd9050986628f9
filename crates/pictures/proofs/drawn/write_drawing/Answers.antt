use Rattle.std.proofs.Common.{ap, arith, ◌∙◌}
use Rattle.eventkey.proofs.Writers.{writes_as}
use Rattle.pictures.specs.Drawing.{frame_of}
use Rattle.pictures.proofs.Marked.{drawing_is}
use Rattle.pictures.proofs.drawn.write_drawing.Goals as goal

pub returns : goal.returns
returns g c = λ r v is.
    let frame = c.framed-frame.ensures.frame r is.time (c.from.ensures ∙ is.processes) ∙ ap (frame_of r) is.view in
    writes_as c.write_picture.ensures (drawing_is r v c.args.diagram.now c.framed-frame.result c.max.result is frame (omega (arith, c.max.ensures, c.min.ensures)))
