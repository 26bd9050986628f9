use Rattle.std.proofs.Common.{ap}
use Rattle.eventkey.proofs.Writers.{writes_as}
use Rattle.pictures.specs.Course.{slice_text}
use Rattle.pictures.proofs.courses.write_column.Goals as goal

pub returns : goal.returns
returns g c =
    writes_as c.write_slice.ensures
    (ap (slice_text c.args.window.now c.args.gvt c.args.most c.args.place) c.column-slice.ensures.slice)
