use Rattle.std.proofs.Common.{ap, false, subst}
use Rattle.pictures.specs.Drawing.{drawing_text}
use Rattle.views.specs.Views.{IsDrawn, IsTracedBefore}
use Rattle.views.proofs.Printed.{begins_written, prints_written}
use Rattle.views.proofs.drawing.draw_events.Goals as goal

pub returns-clause-ok : goal.returns-clause-ok
returns-clause-ok g c =
    let (run, traced, diagram) = c.in_ok-diagram.ensures in
    prints_written (IsDrawn (g.M.Model.meaning) (g.M.Described.says) c.args.disk false c.args.seen.from c.args.seen.to c.args.seen.processes) (drawing_text run c.view_of-view.result)
    (record {
      run = run;
      traced = subst (λ b. IsTracedBefore (g.M.Model.meaning) (g.M.Described.says) c.args.disk b run) c.needed_to-before.ensures traced;
      is = ap (drawing_text run) c.view_of-view.ensures;
    }) c.write_diagram.result (c.write_diagram.ensures.written run c.view_of-view.result diagram)

pub returns-clause-err : goal.returns-clause-err
returns-clause-err g c =
    let (run, traced, diagram) = c.in_ok-diagram.ensures in
    begins_written (IsDrawn (g.M.Model.meaning) (g.M.Described.says) c.args.disk false c.args.seen.from c.args.seen.to c.args.seen.processes) (drawing_text run c.view_of-view.result)
    (record {
      run = run;
      traced = subst (λ b. IsTracedBefore (g.M.Model.meaning) (g.M.Described.says) c.args.disk b run) c.needed_to-before.ensures traced;
      is = ap (drawing_text run) c.view_of-view.ensures;
    }) _ c.write_diagram.result (c.write_diagram.ensures.written run c.view_of-view.result diagram)
