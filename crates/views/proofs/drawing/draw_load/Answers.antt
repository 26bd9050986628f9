use Rattle.std.proofs.Common.{ap, subst, true}
use Rattle.pictures.specs.Load.{load_text}
use Rattle.views.specs.Views.{IsDrawn, IsTracedBefore}
use Rattle.views.proofs.Printed.{begins_written, prints_written}
use Rattle.views.proofs.drawing.draw_load.Goals as goal

pub returns-clause-ok : goal.returns-clause-ok
returns-clause-ok g c =
    let (run, traced, load) = c.in_ok-load.ensures in
    prints_written (IsDrawn (g.M.Model.meaning) (g.M.Described.says) c.args.disk true c.args.seen.from c.args.seen.to c.args.seen.processes) (load_text run c.view_of-view.result)
    (record {
      run = run;
      traced = subst (λ b. IsTracedBefore (g.M.Model.meaning) (g.M.Described.says) c.args.disk b run) c.needed_to-before.ensures traced;
      is = ap (load_text run) c.view_of-view.ensures;
    }) c.write_heat_map.result (c.write_heat_map.ensures.written run c.view_of-view.result load)

pub returns-clause-err : goal.returns-clause-err
returns-clause-err g c =
    let (run, traced, load) = c.in_ok-load.ensures in
    begins_written (IsDrawn (g.M.Model.meaning) (g.M.Described.says) c.args.disk true c.args.seen.from c.args.seen.to c.args.seen.processes) (load_text run c.view_of-view.result)
    (record {
      run = run;
      traced = subst (λ b. IsTracedBefore (g.M.Model.meaning) (g.M.Described.says) c.args.disk b run) c.needed_to-before.ensures traced;
      is = ap (load_text run) c.view_of-view.ensures;
    }) _ c.write_heat_map.result (c.write_heat_map.ensures.written run c.view_of-view.result load)
