use Rattle.std.proofs.Common.{Err, Ok, ap, refl, subst}
use Rattle.plain.specs.Runs.{IsRun}
use Rattle.runs.proofs.commands.plainly.run_plain.Goals as goal

pub returns-in-Ok-clause-run : goal.returns-in-Ok-clause-run
returns-in-Ok-clause-run g c = record {
  run = Ok c.in-Ok.done;
  made = subst (IsRun g.M.Model.meaning g.D.SectorDisk.state c.args.of.now.model c.args.of.now.end c.args.plan c.args.disk c.run_plain-disk.result.disk) c.in-Ok.is c.run_plain-disk.ensures.run;
  printed = (c.write_ran.ensures.written, c.write_ran.ensures.fault);
}

pub returns-in-Err-clause-run : goal.returns-in-Err-clause-run
returns-in-Err-clause-run g c = record {
  run = Err c.in-Err.fault;
  made = subst (IsRun g.M.Model.meaning g.D.SectorDisk.state c.args.of.now.model c.args.of.now.end c.args.plan c.args.disk c.run_plain-disk.result.disk) c.in-Err.is c.run_plain-disk.ensures.run;
  printed = (ap Err c.from.ensures, refl);
}

pub returns-in-Ok-clause-old_records : goal.returns-in-Ok-clause-old_records
returns-in-Ok-clause-old_records g c = c.run_plain-disk.ensures.old_records

pub returns-in-Err-clause-old_records : goal.returns-in-Err-clause-old_records
returns-in-Err-clause-old_records g c = c.run_plain-disk.ensures.old_records
