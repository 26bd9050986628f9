use Rattle.std.proofs.Common.{ℕ, List, refl, rules, subst, ◌++◌}
use Rattle.std.specs.Option.{option_map}
use Rattle.segments.specs.Archiving.{IsTimeIn}
use Rattle.disk.specs.FileDisks.{disk_of_file}
use Rattle.model.specs.Origins.{continued}
use Rattle.upkeep.specs.Rows.{row_of}
use Rattle.upkeep.specs.Salvaging.{IsSalvaged}
use Rattle.views.specs.Reading.{believed_line}
use Rattle.disk_commands.specs.Repairing.{IsRecoveredText, recovered_text}
use Rattle.views.proofs.Printed.{begins_written, prints_written}
use Rattle.disk_commands.proofs.Printed.{believed_is, if_ok}
use Rattle.disk_commands.proofs.repairing.recover_on.Goals as goal

pub returns-clause-ok : goal.returns-clause-ok
returns-clause-ok g c =
    prints_written (IsRecoveredText (g.M.Model.meaning) (g.M.Described.says)) (recovered_text c.in_ok-salvaged.salvaged ++ believed_line c.believed-time.result)
    (record {
      source = c.in_ok-of.ensures.file.0;
      model = c.in_ok-of.of;
      end = c.in_ok-of.end;
      image = c.in_ok-damaged.damaged.reads;
      origin = c.in_row-begins.result.origin;
      on = continued (g.M.Model.meaning c.new-on_row.result.model.now) (option_map (λ o. o.now) c.new-on_row.result.origin);
      new = disk_of_file c.salvage-disk.result.disk;
      salvaged = c.in_ok-salvaged.salvaged;
      line = believed_line c.believed-time.result;
      file = c.in_ok-of.ensures.file.1;
      is_on = (c.in_row-begins.ensures.begins, search rules);
      of_world =
          subst (λ (r : List (List ℕ)). IsSalvaged (continued (g.M.Model.meaning c.new-on_row.result.model.now) (option_map (λ o. o.now) c.new-on_row.result.origin)) c.in_ok-of.end r (disk_of_file c.salvage-disk.result.disk) c.in_ok-salvaged.salvaged)
          c.in_row-begins.ensures.looks.same
          (if_ok (IsSalvaged (continued (g.M.Model.meaning c.new-on_row.result.model.now) (option_map (λ o. o.now) c.new-on_row.result.origin)) c.in_ok-of.end c.in_row-begins.new.disk.reads (disk_of_file c.salvage-disk.result.disk)) c.in_ok-salvaged.was c.salvage-disk.ensures.salvaged);
      line_is = believed_is (IsTimeIn (row_of c.in_ok-damaged.damaged.reads)) c.in_row-begins.result.origin c.in_row-begins.result.time c.believed-time.result c.in_row-begins.ensures.at c.believed-time.ensures.none c.believed-time.ensures.some;
      is = refl;
    }) c.write_recovered.result c.write_recovered.ensures.written

pub returns-clause-err : goal.returns-clause-err
returns-clause-err g c =
    begins_written (IsRecoveredText (g.M.Model.meaning) (g.M.Described.says)) (recovered_text c.in_ok-salvaged.salvaged ++ believed_line c.believed-time.result)
    (record {
      source = c.in_ok-of.ensures.file.0;
      model = c.in_ok-of.of;
      end = c.in_ok-of.end;
      image = c.in_ok-damaged.damaged.reads;
      origin = c.in_row-begins.result.origin;
      on = continued (g.M.Model.meaning c.new-on_row.result.model.now) (option_map (λ o. o.now) c.new-on_row.result.origin);
      new = disk_of_file c.salvage-disk.result.disk;
      salvaged = c.in_ok-salvaged.salvaged;
      line = believed_line c.believed-time.result;
      file = c.in_ok-of.ensures.file.1;
      is_on = (c.in_row-begins.ensures.begins, search rules);
      of_world =
          subst (λ (r : List (List ℕ)). IsSalvaged (continued (g.M.Model.meaning c.new-on_row.result.model.now) (option_map (λ o. o.now) c.new-on_row.result.origin)) c.in_ok-of.end r (disk_of_file c.salvage-disk.result.disk) c.in_ok-salvaged.salvaged)
          c.in_row-begins.ensures.looks.same
          (if_ok (IsSalvaged (continued (g.M.Model.meaning c.new-on_row.result.model.now) (option_map (λ o. o.now) c.new-on_row.result.origin)) c.in_ok-of.end c.in_row-begins.new.disk.reads (disk_of_file c.salvage-disk.result.disk)) c.in_ok-salvaged.was c.salvage-disk.ensures.salvaged);
      line_is = believed_is (IsTimeIn (row_of c.in_ok-damaged.damaged.reads)) c.in_row-begins.result.origin c.in_row-begins.result.time c.believed-time.result c.in_row-begins.ensures.at c.believed-time.ensures.none c.believed-time.ensures.some;
      is = refl;
    }) _ c.write_recovered.result c.write_recovered.ensures.written
