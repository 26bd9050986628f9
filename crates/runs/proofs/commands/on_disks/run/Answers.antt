use Rattle.std.proofs.Common.{Err, List, Ok, ap, refl, subst, ℕ}
use Rattle.runs.specs.Commands.{ran_text}
use Rattle.eventkey.proofs.Writers.{writes_as}
use Rattle.runs.specs.Runs.{IsRunInProgram}
use Rattle.runs.proofs.commands.on_disks.run.Goals as goal

pub returns-in-Ok-clause-run : goal.returns-in-Ok-clause-run
returns-in-Ok-clause-run g c = record {
  run = Ok c.in-Ok.outcome;
  made = subst (IsRunInProgram g.M.Model.meaning g.D.SectorDisk.state c.args.of.now.model c.args.of.now.end c.args.plan c.args.disk c.run_local-disk.result.disk) c.in-Ok.is c.run_local-disk.ensures.run;
  printed = (writes_as c.write_ran.ensures.written (ap (λ (ran : List ℕ). ran_text ran c.in-Ok.outcome.time c.in-Ok.outcome.events) c.as_slice.ensures.value), c.write_ran.ensures.fault);
}

pub returns-in-Err-clause-run : goal.returns-in-Err-clause-run
returns-in-Err-clause-run g c = record {
  run = Err c.in-Err.fault;
  made = subst (IsRunInProgram g.M.Model.meaning g.D.SectorDisk.state c.args.of.now.model c.args.of.now.end c.args.plan c.args.disk c.run_local-disk.result.disk) c.in-Err.is c.run_local-disk.ensures.run;
  printed = (ap Err c.into.ensures, refl);
}

pub returns-in-Ok-clause-old_records : goal.returns-in-Ok-clause-old_records
returns-in-Ok-clause-old_records g c = c.run_local-disk.ensures.old_records

pub returns-in-Err-clause-old_records : goal.returns-in-Err-clause-old_records
returns-in-Err-clause-old_records g c = c.run_local-disk.ensures.old_records
