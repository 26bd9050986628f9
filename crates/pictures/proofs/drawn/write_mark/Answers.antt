use Rattle.std.proofs.Common.{refl}
use Rattle.eventkey.proofs.Writers.{writes_as}
use Rattle.pictures.proofs.drawn.write_mark.Goals as goal

pub returns : goal.returns
returns g c =
    writes_as c.write_filled.ensures
    (rw (c.split_at.ensures.back, c.x_at.ensures.x, c.y_at.ensures, c.x_at-2.ensures.x, c.y_at-2.ensures, c.time.ensures, c.time-2.ensures, c.from-3.ensures, c.from-4.ensures, c.from.ensures, c.from-2.ensures, c.to.ensures, c.to-2.ensures, c.number.ensures, c.a.ensures, c.b.ensures, c.c.ensures, c.d.ensures) refl)
