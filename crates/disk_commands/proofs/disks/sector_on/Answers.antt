use Rattle.disk.specs.FileDisks.{disk_of_file}
use Rattle.disk.specs.Laws.{looks_same}
use Rattle.disk_commands.proofs.disks.sector_on.Goals as goal

pub returns : goal.returns
returns c = record {
  looks = looks_same (disk_of_file c.args.disk.now) (disk_of_file c.read-read.new.self) c.read-read.ensures.time c.read-read.ensures.same_reads c.read-read.ensures.same_dirty;
}
