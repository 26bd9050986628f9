use Rattle.std.proofs.Common.{[], List, ℕ, ap, refl, subst}
use Rattle.std.proofs.lemmas.Result.{err_from_is_err_and}
use Rattle.runs.proofs.Prints.{begins-exactly, done_by, empty_represents, log_stays, making_represents, printed_by}
use Rattle.runs.specs.Commands.{formatted_text}
use Rattle.eventkey.proofs.Writers.{writes_as}
use Rattle.commitlog.specs.Log.{IsDurable}
use Rattle.model.specs.World.{opening}
use Rattle.runs.proofs.commands.on_disks.new.Goals as goal

pub returns-in_err-format-clause-crashes : goal.returns-in_err-format-clause-crashes
returns-in_err-format-clause-crashes g c = λ m end a recovers.
    log_stays m end a (g.D.SectorDisk.state c.args.disk.now) (g.D.SectorDisk.state c.format.new.disk) (g.met.D.SectorDisk.sound c.args.disk.now) c.format.ensures.looks recovers

pub returns-in_err-format-clause-any_moment : goal.returns-in_err-format-clause-any_moment
returns-in_err-format-clause-any_moment g c = λ possible. making_represents (g.M.Model.meaning c.args.of.now.model) c.args.of.now.end c.header-sector.result c.header-sector.ensures possible
    (g.D.SectorDisk.state c.args.disk.now) (g.D.SectorDisk.state c.format.new.disk) c.format.ensures.any_moment

pub returns-in_err-format-clause-printed : goal.returns-in_err-format-clause-printed
returns-in_err-format-clause-printed g c =
    let p = err_from_is_err_and c.from_residual.result c.from_residual.ensures.1 in
    rw (p.1, p.2) (record { all = tt; part = λ is. absurd (cc); none = λ fault is other. refl })

pub returns-in_err-format-clause-made : goal.returns-in_err-format-clause-made
returns-in_err-format-clause-made g c =
    let p = err_from_is_err_and c.from_residual.result c.from_residual.ensures.1 in
    rw (p.1, p.2) tt

pub returns-clause-printed : goal.returns-clause-printed
returns-clause-printed g c = printed_by c.write_formatted.result _ _ _ _ (writes_as c.write_formatted.ensures.written (ap formatted_text c.sectors-sectors.ensures)) c.write_formatted.ensures.fault

pub returns-clause-made : goal.returns-clause-made
returns-clause-made g c =
    let m = g.M.Model.meaning c.args.of.now.model in
    let end = c.args.of.now.end in
    let made = g.D.SectorDisk.state c.format.new.disk in
    let empty = c.in_ok-format.ensures.empty.durable in
    done_by c.write_formatted.result c.write_formatted.ensures.fault
    (record {
      empty = subst (λ (bytes : List ℕ). IsDurable bytes [] made) c.header-sector.ensures empty;
      represents = λ possible. empty_represents m end c.header-sector.result c.header-sector.ensures possible made empty;
      begins = λ possible. begins-exactly m end (opening m) made (g.met.M.Model.lawful c.args.of.now.model) (g.met.D.SectorDisk.sound c.format.new.disk)
          (empty_represents m end c.header-sector.result c.header-sector.ensures possible made empty);
    })

pub returns-clause-crashes : goal.returns-clause-crashes
returns-clause-crashes g c = λ m end a recovers.
    log_stays m end a (g.D.SectorDisk.state c.args.disk.now) (g.D.SectorDisk.state c.format.new.disk) (g.met.D.SectorDisk.sound c.args.disk.now) c.format.ensures.looks recovers

pub returns-clause-any_moment : goal.returns-clause-any_moment
returns-clause-any_moment g c = λ possible. making_represents (g.M.Model.meaning c.args.of.now.model) c.args.of.now.end c.header-sector.result c.header-sector.ensures possible
    (g.D.SectorDisk.state c.args.disk.now) (g.D.SectorDisk.state c.format.new.disk) c.format.ensures.any_moment
