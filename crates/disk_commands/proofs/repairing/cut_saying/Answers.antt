use Rattle.std.specs.Prelude.{◌++◌}
use Rattle.std.proofs.Common.{append_assoc, sym}
use Rattle.eventkey.proofs.Writers.{writes_as, writes_failed, writes_then}
use Rattle.views.specs.Reading.{believed_line}
use Rattle.disk_commands.proofs.Printed.{writes_before_fault}
use Rattle.disk_commands.specs.Repairing.{cut_text, taken_text}
use Rattle.disk_commands.proofs.repairing.cut_saying.Goals as goal

pub returns-in_err-write_taken : goal.returns-in_err-write_taken
returns-in_err-write_taken g c = record {
  written =
      writes_as (writes_failed c.from_residual.result (cut_text c.args.to.cut ++ believed_line c.args.time) c.write_taken.ensures.written c.in_err-write_taken.was c.from_residual.ensures.0)
      (sym (append_assoc (taken_text c.args.to.cut) (cut_text c.args.to.cut) (believed_line c.args.time)));
}

pub returns-in-Err : goal.returns-in-Err
returns-in-Err g c = record {
  written =
      writes_as (writes_before_fault _ (cut_text c.args.to.cut ++ believed_line c.args.time) c.write_taken.ensures.written c.in_ok-write_taken.was)
      (sym (append_assoc (taken_text c.args.to.cut) (cut_text c.args.to.cut) (believed_line c.args.time)));
}

pub returns : goal.returns
returns g c = record {
  written =
      writes_as (writes_then c.write_taken.ensures.written c.in_ok-write_taken.was c.write_cut.ensures.written)
      (sym (append_assoc (taken_text c.args.to.cut) (cut_text c.args.to.cut) (believed_line c.args.time)));
}
