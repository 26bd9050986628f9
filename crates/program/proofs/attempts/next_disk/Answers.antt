use Rattle.disk.specs.FileDisks.{disk_of_file}
use Rattle.program.proofs.Calls.{same_keeps}
use Rattle.program.proofs.attempts.next_disk.Goals as goal

pub returns-in-Ok-clause-goes_on : goal.returns-in-Ok-clause-goes_on
returns-in-Ok-clause-goes_on g c = rw c.in-Ok.ensures.same (same_keeps (g.M.Model.meaning c.args.of.now.model) (disk_of_file c.args.ended.disk))

pub returns-in-Err-clause-rest : goal.returns-in-Err-clause-rest
returns-in-Err-clause-rest g c = rw c.in-Err.ensures.last (same_keeps (g.M.Model.meaning c.args.of.now.model) (disk_of_file c.args.ended.disk))

pub returns-in-Err-Rounds-clause-goes_on : goal.returns-in-Err-Rounds-clause-goes_on
returns-in-Err-Rounds-clause-goes_on g c = same_keeps (g.M.Model.meaning c.args.of.now.model) (disk_of_file c.args.ended.disk)

pub returns-in_default-clause-rest : goal.returns-in_default-clause-rest
returns-in_default-clause-rest g c = same_keeps (g.M.Model.meaning c.args.of.now.model) (disk_of_file c.args.ended.disk)
