use Rattle.std.proofs.Common.{◌≡◌, ap, length, ◌∙◌}
use Rattle.eventkey.proofs.Writers.{writes_as}
use Rattle.pictures.specs.Drawing.{frame_of}
use Rattle.pictures.specs.Load.{cell_at, map_text, most_in_rows, slices_of}
use Rattle.pictures.proofs.Cells.{load_is}
use Rattle.pictures.proofs.loads.write_load.Goals as goal

pub returns : goal.returns
returns g c = λ r v is.
    let l = c.args.load.now in
    let f = c.framed-frame.result in
    let p = c.from-processes.result in
    let processes : p ≡ length r.first = c.from-processes.ensures ∙ is.processes in
    let items = c.as_slice-cells.ensures.value in
    let frame : f ≡ frame_of r v = c.framed-frame.ensures.frame r is.time processes ∙ ap (frame_of r) is.view in
    writes_as c.write_map.ensures
    (ap (λ cs. map_text p (cell_at cs) f c.most_in_rows-most.result) items
    ∙ load_is r v l f p c.most_in_rows-most.result is frame processes (c.most_in_rows-most.ensures ∙ ap (λ cs. most_in_rows (cell_at cs) (slices_of f) f.rows) items))
