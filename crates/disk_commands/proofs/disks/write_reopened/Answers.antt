use Rattle.disk_commands.proofs.disks.write_reopened.Goals as goal

pub returns-clause-written : goal.returns-clause-written
returns-clause-written g c = c.flushed.ensures.written _ _ c.write_opened.ensures
