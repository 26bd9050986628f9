use Rattle.std.proofs.Common.{length, refl}
use Rattle.segments.specs.Archiving.{events_before}
use Rattle.recovery.specs.Front.{world_of}
use Rattle.disk_commands.specs.Disks.{IsNewSegment, segment_text}
use Rattle.views.proofs.Printed.{begins_written, prints_written}
use Rattle.disk_commands.proofs.beginning.new_behind.Goals as goal

pub returns-in-Ok-clause-ok : goal.returns-in-Ok-clause-ok
returns-in-Ok-clause-ok g c =
    prints_written (IsNewSegment (g.M.Model.meaning) (g.M.Described.says) c.args.args.sectors) (segment_text c.args.args.sectors c.in_ok-front.front.g (events_before c.in_ok-front.front.numbers (length c.in_ok-front.front.pending)))
    (record {
      source = c.in_ok-read.read.text.items;
      model = c.in_ok-read.read.model;
      end = c.in_ok-read.read.end;
      world = world_of c.in_ok-front.front;
      file = c.in_ok-read.ensures.file;
      front = c.in_ok-front.ensures.front;
      is = refl;
    }) c.write_segment.result c.write_segment.ensures.written

pub returns-in-Ok-clause-err : goal.returns-in-Ok-clause-err
returns-in-Ok-clause-err g c =
    begins_written (IsNewSegment (g.M.Model.meaning) (g.M.Described.says) c.args.args.sectors) (segment_text c.args.args.sectors c.in_ok-front.front.g (events_before c.in_ok-front.front.numbers (length c.in_ok-front.front.pending)))
    (record {
      source = c.in_ok-read.read.text.items;
      model = c.in_ok-read.read.model;
      end = c.in_ok-read.read.end;
      world = world_of c.in_ok-front.front;
      file = c.in_ok-read.ensures.file;
      front = c.in_ok-front.ensures.front;
      is = refl;
    }) _ c.write_segment.result c.write_segment.ensures.written
