use Rattle.std.proofs.Common.{length, refl, sym, ap, subst, ◌∙◌, arith}
use Rattle.std.proofs.lemmas.Result.{IfErr-at_err}
use Rattle.commitlog.proofs.Behind.{log_is_kept}
use Rattle.commitlog.specs.Records.{Holds}
use Rattle.recovery.specs.Represents.{IsGenuine}
use Rattle.recovery.proofs.Crashes.{looked-keeps, looked-under}
use Rattle.recovery.proofs.OldRecords.{looks_at_old}
use Rattle.upkeep.specs.Growing.{GrowingIsRefused, NamesFailure}
use Rattle.eventkey.proofs.Writers.{at_ok}
use Rattle.upkeep.proofs.Staying.{genuine_stays, grown_from, old_records_stay, recovery_stays, refused_from, under_its_end_stays, kept_call, wanting}
use Rattle.upkeep.proofs.growing.disks.grow.Goals as goal

-- the log is not of this model, or could not be read

pub returns-in-Err-clause-crashes : goal.returns-in-Err-clause-crashes
returns-in-Err-clause-crashes g c end a recovers =
    let state = g.D.SectorDisk.state in
    looked-keeps (g.M.Model.meaning c.args.model.now) end a (state c.args.disk) (state c.check-disk.result.disk) c.check-disk.ensures.looks recovers

pub returns-in-Err-clause-kept : goal.returns-in-Err-clause-kept
returns-in-Err-clause-kept g c v =
    let state = g.D.SectorDisk.state in
    let m = g.M.Model.meaning c.args.model.now in
    kept_call m v (state c.args.disk) _ (λ a. looked-under m a (state c.args.disk) _ c.check-disk.ensures.looks)

pub returns-in-Err-clause-old_records : goal.returns-in-Err-clause-old_records
returns-in-Err-clause-old_records g c = looks_at_old (g.D.SectorDisk.state c.args.disk) _ c.check-disk.ensures.looks

pub returns-in-Err-clause-named : goal.returns-in-Err-clause-named
returns-in-Err-clause-named g c =
    let state = g.D.SectorDisk.state in
    subst (NamesFailure (state c.args.disk) (state c.check-disk.result.disk)) c.in-Err.is c.check-disk.ensures.named

pub returns-in-Err-clause-refused : goal.returns-in-Err-clause-refused
returns-in-Err-clause-refused g c = IfErr-at_err _ c.in-Err.is (c.check-disk.ensures.refused c.args.sectors c.args.most)

pub returns-in-Err-clause-resources : goal.returns-in-Err-clause-resources
returns-in-Err-clause-resources g c end a recovers =
    let state = g.D.SectorDisk.state in
    wanting (g.M.Model.meaning c.args.model.now) (state c.args.disk) (g.met.D.SectorDisk.sound c.args.disk) end a c.args.sectors c.args.most _ recovers c.in-Err.fault
    (IfErr-at_err _ c.in-Err.is (c.check-disk.ensures.refused c.args.sectors c.args.most))

-- the disk has grown

pub returns-in-Ok-clause-grown : goal.returns-in-Ok-clause-grown
returns-in-Ok-clause-grown g c =
    let state = g.D.SectorDisk.state in
    let m = g.M.Model.meaning c.args.model.now in
    let looks = c.check-disk.ensures.looks in
    let grown = grown_from m (state c.args.disk) (state c.check-disk.result.disk) looks c.args.sectors _ c.in-Ok.ensures.grown in
    let ours = at_ok c.in_default.is c.check-disk.ensures.ours in
    record {
      reads = grown;
      in_sync = c.in-Ok.ensures.in_sync;
      before = c.sectors-before.ensures ∙ ap length looks.same;
      now = refl;
      not_fewer = omega (arith, c.sectors-before.ensures, c.in-Ok.ensures.ok.0);
      not_too_many = c.in-Ok.ensures.ok.1;
      ours = ours;
      held = λ header records holds. subst (Holds header records) (sym grown) (log_is_kept header records _ _ holds);
      genuine = λ end genuine. subst (IsGenuine m end) (sym grown) (genuine_stays m end _ ours.entries _ _ ours.log.holds genuine);
    }

pub returns-in-Ok-clause-crashes : goal.returns-in-Ok-clause-crashes
returns-in-Ok-clause-crashes g c end a recovers =
    let state = g.D.SectorDisk.state in
    recovery_stays (g.M.Model.meaning c.args.model.now) (state c.args.disk) (state c.check-disk.result.disk) c.check-disk.ensures.looks (state c.grow.new.self) _ c.grow.ensures.any_moment end a recovers

pub returns-in-Ok-clause-kept : goal.returns-in-Ok-clause-kept
returns-in-Ok-clause-kept g c v =
    let state = g.D.SectorDisk.state in
    let m = g.M.Model.meaning c.args.model.now in
    kept_call m v (state c.args.disk) (state c.grow.new.self) (under_its_end_stays m (state c.args.disk) (state c.check-disk.result.disk) c.check-disk.ensures.looks (state c.grow.new.self) _ c.grow.ensures.any_moment)

pub returns-in-Ok-clause-old_records : goal.returns-in-Ok-clause-old_records
returns-in-Ok-clause-old_records g c =
    let state = g.D.SectorDisk.state in
    old_records_stay (g.M.Model.meaning c.args.model.now) (state c.args.disk) (state c.check-disk.result.disk) c.check-disk.ensures.looks (state c.grow.new.self) _ c.grow.ensures.any_moment

pub returns-in-Ok-clause-named : goal.returns-in-Ok-clause-named
returns-in-Ok-clause-named g c =
    let state = g.D.SectorDisk.state in
    c.in-Ok.ensures.no_failure ∙ subst (NamesFailure (state c.args.disk) (state c.check-disk.result.disk)) c.in_default.is c.check-disk.ensures.named

-- the disk could not grow

pub returns-in-Err-grow-clause-crashes : goal.returns-in-Err-grow-clause-crashes
returns-in-Err-grow-clause-crashes g c end a recovers =
    let state = g.D.SectorDisk.state in
    recovery_stays (g.M.Model.meaning c.args.model.now) (state c.args.disk) (state c.check-disk.result.disk) c.check-disk.ensures.looks (state c.grow.new.self) _ c.grow.ensures.any_moment end a recovers

pub returns-in-Err-grow-clause-kept : goal.returns-in-Err-grow-clause-kept
returns-in-Err-grow-clause-kept g c v =
    let state = g.D.SectorDisk.state in
    let m = g.M.Model.meaning c.args.model.now in
    kept_call m v (state c.args.disk) (state c.grow.new.self) (under_its_end_stays m (state c.args.disk) (state c.check-disk.result.disk) c.check-disk.ensures.looks (state c.grow.new.self) _ c.grow.ensures.any_moment)

pub returns-in-Err-grow-clause-old_records : goal.returns-in-Err-grow-clause-old_records
returns-in-Err-grow-clause-old_records g c =
    let state = g.D.SectorDisk.state in
    old_records_stay (g.M.Model.meaning c.args.model.now) (state c.args.disk) (state c.check-disk.result.disk) c.check-disk.ensures.looks (state c.grow.new.self) _ c.grow.ensures.any_moment

pub returns-in-Err-grow-clause-named : goal.returns-in-Err-grow-clause-named
returns-in-Err-grow-clause-named g c = λ other.
    let state = g.D.SectorDisk.state in
    ap (λ (d : g.row.D.Denot). (state d).failures) (c.in-Err-grow.ensures.unchanged other) ∙ subst (NamesFailure (state c.args.disk) (state c.check-disk.result.disk)) c.in_default.is c.check-disk.ensures.named

pub returns-in-Err-grow-clause-refused : goal.returns-in-Err-grow-clause-refused
returns-in-Err-grow-clause-refused g c =
    let state = g.D.SectorDisk.state in
    let unfailed = subst (NamesFailure (state c.args.disk) (state c.check-disk.result.disk)) c.in_default.is c.check-disk.ensures.named in (
      at_ok c.in_default.is c.check-disk.ensures.ours,
      refused_from (g.M.Model.meaning c.args.model.now) (state c.args.disk) (state c.check-disk.result.disk) c.check-disk.ensures.looks c.in-Err-grow.fault c.args.sectors c.args.most _ unfailed c.in-Err-grow.ensures.refused,
    )

pub returns-in-Err-grow-clause-resources : goal.returns-in-Err-grow-clause-resources
returns-in-Err-grow-clause-resources g c end a recovers =
    let state = g.D.SectorDisk.state in
    let unfailed = subst (NamesFailure (state c.args.disk) (state c.check-disk.result.disk)) c.in_default.is c.check-disk.ensures.named in
    refused_from (g.M.Model.meaning c.args.model.now) (state c.args.disk) (state c.check-disk.result.disk) c.check-disk.ensures.looks c.in-Err-grow.fault c.args.sectors c.args.most _ unfailed c.in-Err-grow.ensures.refused
