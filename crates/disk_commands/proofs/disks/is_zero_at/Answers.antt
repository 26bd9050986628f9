use Rattle.disk.specs.FileDisks.{disk_of_file}
use Rattle.disk.specs.Laws.{looks_same}
use Rattle.disk_commands.proofs.disks.is_zero_at.Goals as goal

pub returns-in_err-read-clause-looks : goal.returns-in_err-read-clause-looks
returns-in_err-read-clause-looks c =
    looks_same (disk_of_file c.args.disk.now) (disk_of_file c.read.new.self) c.read.ensures.time c.read.ensures.same_reads c.read.ensures.same_dirty

pub returns-clause-looks : goal.returns-clause-looks
returns-clause-looks c =
    looks_same (disk_of_file c.args.disk.now) (disk_of_file c.read.new.self) c.read.ensures.time c.read.ensures.same_reads c.read.ensures.same_dirty
