use Rattle.disk.specs.FileDisks.{disk_of_file}
use Rattle.program.proofs.Calls.{same_keeps}
use Rattle.program.proofs.attempts.lengthened.Goals as goal

pub returns-then-sectors-before-clause-kept_err : goal.returns-then-sectors-before-clause-kept_err
returns-then-sectors-before-clause-kept_err g c = same_keeps (g.M.Model.meaning c.args.of.now.model) (disk_of_file c.args.ended.disk)
