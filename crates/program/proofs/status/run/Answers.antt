use Rattle.std.proofs.Common.{[], refl}
use Rattle.std.proofs.KnownBytes.{Appends-nil}
use Rattle.program.proofs.Printed.{when_ok}
use Rattle.program.proofs.status.run.Goals as goal

-- a node prints nothing
pub returns-in-Node-clause-ok : goal.returns-in-Node-clause-ok
returns-in-Node-clause-ok g c =
    rw c.in-Node.is
    (when_ok c.serve_on.result ([], refl, Appends-nil (g.O.Write.contents c.args.out.now)))
