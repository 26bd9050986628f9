use Rattle.std.proofs.Common.{None, Result, subst}
use Rattle.runs.proofs.Prints.{at_least_as_before, kept-extended}
use Rattle.coordinator.specs.Extending.{acknowledged_front}
use Rattle.coordinator.specs.declared.extending.Extended.{Extended}
use Rattle.coordinator.specs.declared.SessionFault.{SessionFault}
use Rattle.recovery.specs.Front.{world_of}
use Rattle.recovery.specs.Histories.{IsKept}
use Rattle.runs.proofs.commands.on_disks.extend.Goals.{in-Ok, in-Err}
use Rattle.runs.proofs.commands.on_disks.extend.Goals as goal

pub returns-clause-crashes : goal.returns-clause-crashes
returns-clause-crashes g c =
    let m = g.M.Model.meaning c.args.of.now.model in
    let end = c.args.of.now.end in
    let old = g.D.SectorDisk.state c.args.disk in
    let new = g.D.SectorDisk.state c.extend-disk.result.disk in
    elim c.match-outcome.branch [
      | in-Ok w ↦ rw w.result-is (λ a recovers. at_least_as_before m a _ end old new (c.extend-disk.ensures.crashes a recovers))
      | in-Err w ↦ rw w.result-is (λ a recovers. at_least_as_before m a _ end old new (c.extend-disk.ensures.crashes a recovers))
    ]

pub returns-clause-kept : goal.returns-clause-kept
returns-clause-kept g c =
    let m = g.M.Model.meaning c.args.of.now.model in
    let end = c.args.of.now.end in
    let old = g.D.SectorDisk.state c.args.disk in
    let new = g.D.SectorDisk.state c.extend-disk.result.disk in
    elim c.match-outcome.branch [
      | in-Ok w ↦ rw w.result-is
          (λ v. kept-extended m end v (world_of w.in-Ok.field-0.front) old new w.write_extended.result
          (subst (λ (r : Result Extended SessionFault). IsKept m v (record { begun = old; ended = new; front = acknowledged_front end r })) w.in-Ok.is (c.extend-disk.ensures.kept v)))
      | in-Err w ↦ rw w.result-is
          (λ v. (None, tt, subst (λ (r : Result Extended SessionFault). IsKept m v (record { begun = old; ended = new; front = acknowledged_front end r })) w.in-Err.is (c.extend-disk.ensures.kept v)))
    ]
