use Rattle.std.proofs.Common.{subst}
use Rattle.runs.proofs.OldDisks.{other_end}
use Rattle.commitlog.specs.Records.{Holds}
use Rattle.runs.proofs.commands.migrating.old_log.Goals as goal

pub returns-then-end-of-clause-refused : goal.returns-then-end-of-clause-refused
returns-then-end-of-clause-refused g c =
    let log = c.in-Ok.log in
    let image = (g.D.SectorDisk.state c.args.disk).reads in
    let on : Holds log.header log.records image = subst (Holds log.header log.records) c.in-Ok.ensures.opened.looks.same c.in-Ok.ensures.opened.durable.holds in
    other_end (g.M.Model.meaning c.args.of.now.model) c.args.of.now.end log.header log.records image on c.in-Ok-old_end_of.end c.in-Ok-old_end_of.ensures.ok c.if-end-of.true
