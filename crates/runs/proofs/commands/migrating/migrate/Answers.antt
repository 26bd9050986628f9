use Rattle.std.proofs.Common.{length}
use Rattle.runs.proofs.OldDisks.{carrying, not_both, refused_after}
use Rattle.runs.proofs.Prints.{log_stays}
use Rattle.runs.proofs.commands.migrating.migrate.Goals as goal

pub returns-in-Err-clause-crashes : goal.returns-in-Err-clause-crashes
returns-in-Err-clause-crashes g c = λ m end a recovers.
    log_stays m end a (g.E.SectorDisk.state c.args.disk) (g.E.SectorDisk.state c.in-Err.field-0.disk) (g.met.E.SectorDisk.sound c.args.disk) c.in-Err.ensures.looks_err recovers

pub returns-clause-any_moment : goal.returns-clause-any_moment
returns-clause-any_moment g c = λ in_sync blank.
    let made = c.in-Ok.ensures.made in
    let log = c.args.old.now in
    rw (c.into_disk.ensures) (carrying (g.M.Model.meaning c.args.of.now.model) made.first log.header c.in-Ok.new.header log.records made.possible made.old_is made.new_is
    (g.E.SectorDisk.state c.args.disk) (g.E.SectorDisk.state c.in-Ok.new.disk) (g.E.SectorDisk.state c.carry_over-outcome.new.new.disk) (c.in-Ok.ensures.any_moment in_sync blank)
    c.carry_over-outcome.ensures.any_moment)

pub returns-clause-crashes : goal.returns-clause-crashes
returns-clause-crashes g c = λ m end a recovers.
    log_stays m end a (g.E.SectorDisk.state c.args.disk) (g.E.SectorDisk.state c.into_disk.result) (g.met.E.SectorDisk.sound c.args.disk)
    (λ formatted. not_both (g.E.SectorDisk.state c.args.disk).reads c.in-Ok.ensures.blank formatted) recovers

pub returns-clause-refused : goal.returns-clause-refused
returns-clause-refused g c =
    rw (c.into_disk.ensures) (refused_after (g.M.Model.meaning c.args.of.now.model) g.E.SectorDisk.state c.args.old.now c.in-Ok.new (g.E.SectorDisk.state c.args.disk).reads c.carry_over-outcome.new.new.records (length (g.E.SectorDisk.state c.carry_over-outcome.new.new.disk).reads)
    (g.E.SectorDisk.state c.args.disk).failures (g.E.SectorDisk.state c.in-Ok.new.disk).failures (g.E.SectorDisk.state c.carry_over-outcome.new.new.disk).failures _ c.carry_over-outcome.result
    c.in-Ok.ensures.made c.in-Ok.ensures.blank c.in-Ok.ensures.no_failure c.carry_over-outcome.ensures.refused)
