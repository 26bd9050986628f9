use Rattle.std.proofs.Common.{ℕ, List, ap, refl, rules, subst, ◌++◌, ◌∙◌}
use Rattle.std.specs.Prelude.{slice_set}
use Rattle.std.specs.Option.{option_map}
use Rattle.segments.specs.Archiving.{IsBegunAt}
use Rattle.commitlog.specs.Records.{open_bytes}
use Rattle.model.specs.Origins.{continued}
use Rattle.upkeep.specs.Verified.{IsOfWorld}
use Rattle.views.specs.Reading.{believed_line}
use Rattle.disk_commands.proofs.Printed.{believed_is}
use Rattle.disk_commands.specs.Disks.{IsReopenedText, reopened_text}
use Rattle.views.proofs.Printed.{begins_written, prints_written}
use Rattle.disk_commands.proofs.disks.reopen_on.Goals as goal

pub returns-clause-ok : goal.returns-clause-ok
returns-clause-ok g c =
    prints_written (IsReopenedText (g.M.Model.meaning) (g.M.Described.says)) (reopened_text c.in_ok-seen.seen ++ believed_line c.believed-time.result)
    (record {
      source = c.in_ok-model.ensures.file.0;
      model = c.in_ok-model.model;
      end = c.in_ok-model.end;
      image = slice_set c.in_ok-disk.disk.reads 0 open_bytes;
      origin = c.behind_gate-begins.result.origin;
      on = continued (g.M.Model.meaning c.new-on.result.model.now) (option_map (λ o. o.now) c.new-on.result.origin);
      seen = c.in_ok-seen.seen;
      line = believed_line c.believed-time.result;
      file = c.in_ok-model.ensures.file.1;
      is_on = (c.behind_gate-begins.ensures.begins, search rules);
      of_world =
          subst (λ (r : List (List ℕ)). IsOfWorld (continued (g.M.Model.meaning c.new-on.result.model.now) (option_map (λ o. o.now) c.new-on.result.origin)) c.in_ok-model.end r c.in_ok-seen.seen)
          (c.in_ok-seen.ensures.opened ∙ ap (λ (r : List (List ℕ)). slice_set r 0 open_bytes) c.behind_gate-begins.ensures.looks.same) c.in_ok-seen.ensures.represents;
      line_is = believed_is (IsBegunAt (slice_set c.in_ok-disk.disk.reads 0 open_bytes)) c.behind_gate-begins.result.origin c.behind_gate-begins.result.time c.believed-time.result c.behind_gate-begins.ensures.at c.believed-time.ensures.none c.believed-time.ensures.some;
      is = refl;
    }) c.write_reopened.result c.write_reopened.ensures.written

pub returns-clause-err : goal.returns-clause-err
returns-clause-err g c =
    begins_written (IsReopenedText (g.M.Model.meaning) (g.M.Described.says)) (reopened_text c.in_ok-seen.seen ++ believed_line c.believed-time.result)
    (record {
      source = c.in_ok-model.ensures.file.0;
      model = c.in_ok-model.model;
      end = c.in_ok-model.end;
      image = slice_set c.in_ok-disk.disk.reads 0 open_bytes;
      origin = c.behind_gate-begins.result.origin;
      on = continued (g.M.Model.meaning c.new-on.result.model.now) (option_map (λ o. o.now) c.new-on.result.origin);
      seen = c.in_ok-seen.seen;
      line = believed_line c.believed-time.result;
      file = c.in_ok-model.ensures.file.1;
      is_on = (c.behind_gate-begins.ensures.begins, search rules);
      of_world =
          subst (λ (r : List (List ℕ)). IsOfWorld (continued (g.M.Model.meaning c.new-on.result.model.now) (option_map (λ o. o.now) c.new-on.result.origin)) c.in_ok-model.end r c.in_ok-seen.seen)
          (c.in_ok-seen.ensures.opened ∙ ap (λ (r : List (List ℕ)). slice_set r 0 open_bytes) c.behind_gate-begins.ensures.looks.same) c.in_ok-seen.ensures.represents;
      line_is = believed_is (IsBegunAt (slice_set c.in_ok-disk.disk.reads 0 open_bytes)) c.behind_gate-begins.result.origin c.behind_gate-begins.result.time c.believed-time.result c.behind_gate-begins.ensures.at c.believed-time.ensures.none c.believed-time.ensures.some;
      is = refl;
    }) _ c.write_reopened.result c.write_reopened.ensures.written
