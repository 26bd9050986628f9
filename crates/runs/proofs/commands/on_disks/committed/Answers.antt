use Rattle.std.proofs.Common.{◌∙◌, subst, sym}
use Rattle.std.proofs.lemmas.Result.{err_from_is_err_and}
use Rattle.runs.proofs.Prints.{not_opened, not_recovered}
use Rattle.commitlog.specs.Records.{Holds}
use Rattle.recovery.proofs.Crashes.{log-on}
use Rattle.runs.proofs.commands.on_disks.committed.Goals as goal

pub returns-clause-replayed : goal.returns-clause-replayed
returns-clause-replayed g c =
    let m = g.M.Model.meaning c.args.of.now.model in
    let said = c.in_ok-recover.ensures in
    let on : Holds c.in-Ok.log.header c.in-Ok.log.records (g.D.SectorDisk.state c.args.disk).reads = subst (Holds c.in-Ok.log.header c.in-Ok.log.records) c.in-Ok.ensures.opened.looks.same c.in-Ok.ensures.opened.durable.holds in
    record { entries = c.in-Ok.log.records; log = log-on m c.args.of.now.end c.in-Ok.log.header c.in-Ok.log.records (g.D.SectorDisk.state c.args.disk).reads said.front.ours on; replayed = said.front.replayed }

pub returns-clause-genuine : goal.returns-clause-genuine
returns-clause-genuine g c = λ genuine.
    let m = g.M.Model.meaning c.args.of.now.model in
    let said = c.in_ok-recover.ensures in
    let on : Holds c.in-Ok.log.header c.in-Ok.log.records (g.D.SectorDisk.state c.args.disk).reads = subst (Holds c.in-Ok.log.header c.in-Ok.log.records) c.in-Ok.ensures.opened.looks.same c.in-Ok.ensures.opened.durable.holds in
    let records = genuine c.in-Ok.log.records (log-on m c.args.of.now.end c.in-Ok.log.header c.in-Ok.log.records (g.D.SectorDisk.state c.args.disk).reads said.front.ours on) in
    record { represents = (said.front.genuine records).represents _ on; upto = (said.front.genuine records).upto }

pub returns-clause-each : goal.returns-clause-each
returns-clause-each g c = let world = c.in_ok-recover.ensures.front.loadable.world in world.states ∙ sym world.numbers

pub returns-in-Err-clause-refused : goal.returns-in-Err-clause-refused
returns-in-Err-clause-refused g c = not_opened c.in-Err.field-0.fault (g.D.SectorDisk.state c.args.disk).reads _ c.in-Err.ensures.refused

pub returns-in_err-recover-clause-refused : goal.returns-in_err-recover-clause-refused
returns-in_err-recover-clause-refused g c =
    let p = err_from_is_err_and c.from_residual.result c.from_residual.ensures.1 in
    let log = c.in-Ok.log in
    let image = (g.D.SectorDisk.state c.args.disk).reads in
    let on : Holds log.header log.records image = subst (Holds log.header log.records) c.in-Ok.ensures.opened.looks.same c.in-Ok.ensures.opened.durable.holds in
    rw (p.1, p.2) (not_recovered (g.M.Model.meaning c.args.of.now.model) c.args.of.now.end log image c.in_err-recover.field-0.0 _ c.in-Ok.ensures.opened.ready on c.in_err-recover.ensures.refused)
