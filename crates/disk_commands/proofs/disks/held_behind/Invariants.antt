use Rattle.disk.specs.Disk.{OnlyLooks}
use Rattle.disk.specs.FileDisks.{disk_of_file}
use Rattle.disk_commands.proofs.disks.held_behind.Given as goal

-- the disk was only read
abbrev pub invariant-loop-number : goal.invariant-loop-number
invariant-loop-number l = OnlyLooks (disk_of_file l.fn.disk) (disk_of_file l.disk)
