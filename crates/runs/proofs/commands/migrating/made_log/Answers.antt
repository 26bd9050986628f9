use Rattle.runs.proofs.OldDisks.{making, opening_it}
use Rattle.runs.proofs.commands.migrating.made_log.Goals as goal

pub returns-in-Err-format-clause-any_moment_err : goal.returns-in-Err-format-clause-any_moment_err
returns-in-Err-format-clause-any_moment_err g c = λ in_sync blank.
    let outcome = c.in-Ok.ensures.ok in
    let log = c.args.old.now in
    making (g.M.Model.meaning c.args.of.now.model) c.in-Ok.end log.header c.header-sector.result log.records outcome.0 outcome.1 c.header-sector.ensures
    (g.E.SectorDisk.state c.args.disk) (g.E.SectorDisk.state c.format.new.disk) (c.format.ensures.any_moment in_sync blank)

pub returns-in-Ok-open-clause-any_moment : goal.returns-in-Ok-open-clause-any_moment
returns-in-Ok-open-clause-any_moment g c = λ in_sync blank.
    let outcome = c.in-Ok.ensures.ok in
    let log = c.args.old.now in
    opening_it (g.M.Model.meaning c.args.of.now.model) c.in-Ok.end log.header c.header-sector.result log.records outcome.0 outcome.1 c.header-sector.ensures
    (g.E.SectorDisk.state c.args.disk) (g.E.SectorDisk.state c.format.new.disk) (g.E.SectorDisk.state c.in-Ok-open.log.disk) (c.format.ensures.any_moment in_sync blank) c.in-Ok-format.ensures.empty.durable c.in-Ok-open.ensures.opened.looks

pub returns-in-Err-open-clause-any_moment_err : goal.returns-in-Err-open-clause-any_moment_err
returns-in-Err-open-clause-any_moment_err g c = λ in_sync blank.
    let outcome = c.in-Ok.ensures.ok in
    let log = c.args.old.now in
    opening_it (g.M.Model.meaning c.args.of.now.model) c.in-Ok.end log.header c.header-sector.result log.records outcome.0 outcome.1 c.header-sector.ensures
    (g.E.SectorDisk.state c.args.disk) (g.E.SectorDisk.state c.format.new.disk) (g.E.SectorDisk.state c.in-Err-open.field-0.disk) (c.format.ensures.any_moment in_sync blank) c.in-Ok-format.ensures.empty.durable c.in-Err-open.ensures.not_opened.looks
