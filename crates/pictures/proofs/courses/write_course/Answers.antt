use Rattle.eventkey.proofs.Writers.{writes_as}
use Rattle.pictures.proofs.Rounds.{course_is}
use Rattle.pictures.proofs.courses.write_course.Goals as goal

pub returns : goal.returns
returns g c =
    writes_as c.write_picture.ensures
    (course_is c.args.rows.now c.window_of-window.result c.slice_of-whole.result c.most_antimessages-most.result
    c.window_of-window.ensures.window c.slice_of-whole.ensures.slice c.most_antimessages-most.ensures)
