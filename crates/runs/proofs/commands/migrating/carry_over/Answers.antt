use Rattle.std.proofs.Common.{List, ap, length, subst, ℕ}
use Rattle.runs.proofs.OldDisks.{migrated_written}
use Rattle.runs.specs.Migrating.{migrated_text}
use Rattle.eventkey.proofs.Writers.{began, writes_as}
use Rattle.eventkey.specs.Message.{Message}
use Rattle.eventkey.specs.Writing.{TakesBeginning}
use Rattle.recovery.specs.Front.{world_of}
use Rattle.runs.proofs.commands.migrating.carry_over.Goals as goal

pub returns-in-Ok-clause-printed : goal.returns-in-Ok-clause-printed
returns-in-Ok-clause-printed g c =
    let front = c.in-Ok.front in
    let old = c.args.old.now in
    migrated_written (g.M.Model.meaning c.args.model.now) old.header c.args.new.now.header old.records c.migrate.new.new.records (g.E.SectorDisk.state c.migrate.new.new.disk) (world_of front)
    (g.O.Write.contents c.args.out.now) (g.O.Write.contents c.write_migrated.new.out) c.write_migrated.result c.in-Ok.ensures.migrated.migrated (c.in-Ok.ensures.begins c.requires.empty).leaves
    (writes_as c.write_migrated.ensures.written (ap (λ (events : List Message). migrated_text front.g (length events)) c.as_slice.ensures))

pub returns-in-Ok-clause-output : goal.returns-in-Ok-clause-output
returns-in-Ok-clause-output g c = λ failed.
    let front = c.in-Ok.front in
    record {
      header = c.args.new.now.header;
      news = c.migrate.new.new.records;
      front = world_of front;
      migrated = c.in-Ok.ensures.migrated.migrated;
      leaves = (c.in-Ok.ensures.begins c.requires.empty).leaves;
      taken =
          subst (λ (text : List ℕ). TakesBeginning (g.O.Write.contents c.args.out.now) (g.O.Write.contents c.write_migrated.new.out) text)
          (ap (λ (events : List Message). migrated_text front.g (length events)) c.as_slice.ensures)
          (began c.write_migrated.ensures.written failed);
    }
