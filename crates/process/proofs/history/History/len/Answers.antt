use Rattle.std.proofs.Common.{◌∙◌, ap, length, sym}
use Rattle.process.proofs.Courses.{length-records_of}
use Rattle.process.specs.Course.{Course}
use Rattle.process.proofs.history.History.len.Goals as goal

pub returns : goal.returns
returns c = c.len.ensures ∙ (sym (length-records_of c.self.inside.start.items c.self.inside.start_number c.self.inside.handlings) ∙ ap (λ (h : Course). length h.done) c.self.view_is)
