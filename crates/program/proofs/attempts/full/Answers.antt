use Rattle.disk.specs.FileDisks.{disk_of_file}
use Rattle.program.proofs.Calls.{looks_keep}
use Rattle.program.proofs.attempts.full.Goals as goal

pub returns-in-Err-clause-rest : goal.returns-in-Err-clause-rest
returns-in-Err-clause-rest g c = looks_keep (g.M.Model.meaning c.args.of.now.model) (disk_of_file c.args.ended.disk) (disk_of_file c.in-Err.last.disk) c.in-Err.ensures.looks
