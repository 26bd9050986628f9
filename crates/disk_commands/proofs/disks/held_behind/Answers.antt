use Rattle.disk.specs.FileDisks.{disk_of_file}
use Rattle.disk.specs.Laws.{looks_none}
use Rattle.disk_commands.proofs.disks.held_behind.Goals as goal

pub loop-number-init : goal.loop-number-init
loop-number-init c = looks_none (disk_of_file c.args.disk.now)
