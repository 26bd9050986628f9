use Rattle.std.proofs.Common.{arith}
use Rattle.disk.proofs.Sectors.{replicate_whole}
use Rattle.disk.proofs.memory.MemDisk.left_in.Goals as goal

pub returns-in-Fill-clause-whole : goal.returns-in-Fill-clause-whole
returns-in-Fill-clause-whole c = replicate_whole c.in-Fill.byte (omega arith)
