use Rattle.views.proofs.Printed.{log_so_far, on_fault, so_far, whole_printed}
use Rattle.views.proofs.Runs.{on_ok}
use Rattle.views.proofs.files.seq_of.Goals as goal

pub returns-clause-ok : goal.returns-clause-ok
returns-clause-ok g c = on_ok c.seq.result (whole_printed (g.M.Model.meaning) (g.M.Described.says) c.in_ok-text.text.now) c.seq.ensures.ok

pub returns-clause-err : goal.returns-clause-err
returns-clause-err g c =
    on_fault c.seq.result (λ e. so_far (g.M.Model.meaning) (g.M.Described.says) c.in_ok-text.text.now (c.seq.ensures.output e))
    (λ f e. log_so_far (g.M.Model.meaning) (g.M.Described.says) c.in_ok-text.text.now (c.seq.ensures.world f e)) (λ f e n w. c.seq.ensures.unwritten f e n w)
