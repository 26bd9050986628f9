use Rattle.std.proofs.Common.{refl, rules}
use Rattle.std.specs.Prelude.{◌++◌}
use Rattle.std.specs.Option.{option_map}
use Rattle.segments.specs.Archiving.{IsBegunAt}
use Rattle.model.specs.Origins.{continued}
use Rattle.views.specs.Reading.{believed_line}
use Rattle.disk_commands.proofs.Printed.{believed_is}
use Rattle.disk_commands.specs.Repairing.{IsCutText, cut_text, taken_text}
use Rattle.views.proofs.Printed.{begins_written, prints_written}
use Rattle.disk_commands.proofs.repairing.cut_on.Goals as goal

pub returns-clause-ok : goal.returns-clause-ok
returns-clause-ok g c =
    prints_written (IsCutText (g.M.Model.meaning) (g.M.Described.says)) (taken_text c.in-Ok.to.cut ++ cut_text c.in-Ok.to.cut ++ believed_line c.believed-time.result)
    (record {
      source = c.in_ok-model.ensures.file.0;
      model = c.in_ok-model.model;
      end = c.in_ok-model.end;
      image = c.of-begun.result.disk.reads;
      origin = c.of-begun.result.origin;
      on = continued (g.M.Model.meaning c.new-on.result.model.now) (option_map (λ o. o.now) c.new-on.result.origin);
      left = c.in-Ok.ensures.takes.0;
      cut = c.in-Ok.to.cut;
      line = believed_line c.believed-time.result;
      file = c.in_ok-model.ensures.file.1;
      is_on = (c.of-begun.ensures.begins, search rules);
      of_world = c.in-Ok.ensures.takes.1;
      line_is = believed_is (IsBegunAt c.of-begun.result.disk.reads) c.of-begun.result.origin c.of-begun.result.time c.believed-time.result c.of-begun.ensures.at c.believed-time.ensures.none c.believed-time.ensures.some;
      is = refl;
    }) c.cut_saying.result c.cut_saying.ensures.written

pub returns-clause-err : goal.returns-clause-err
returns-clause-err g c =
    begins_written (IsCutText (g.M.Model.meaning) (g.M.Described.says)) (taken_text c.in-Ok.to.cut ++ cut_text c.in-Ok.to.cut ++ believed_line c.believed-time.result)
    (record {
      source = c.in_ok-model.ensures.file.0;
      model = c.in_ok-model.model;
      end = c.in_ok-model.end;
      image = c.of-begun.result.disk.reads;
      origin = c.of-begun.result.origin;
      on = continued (g.M.Model.meaning c.new-on.result.model.now) (option_map (λ o. o.now) c.new-on.result.origin);
      left = c.in-Ok.ensures.takes.0;
      cut = c.in-Ok.to.cut;
      line = believed_line c.believed-time.result;
      file = c.in_ok-model.ensures.file.1;
      is_on = (c.of-begun.ensures.begins, search rules);
      of_world = c.in-Ok.ensures.takes.1;
      line_is = believed_is (IsBegunAt c.of-begun.result.disk.reads) c.of-begun.result.origin c.of-begun.result.time c.believed-time.result c.of-begun.ensures.at c.believed-time.ensures.none c.believed-time.ensures.some;
      is = refl;
    }) _ c.cut_saying.result c.cut_saying.ensures.written
