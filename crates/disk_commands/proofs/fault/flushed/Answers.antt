use Rattle.eventkey.proofs.Writers.{writes_whole, wrote}
use Rattle.views.proofs.Printed.{refused_write}
use Rattle.disk_commands.proofs.fault.flushed.Goals as goal

pub returns-in_err-written-clause-written : goal.returns-in_err-written-clause-written
returns-in_err-written-clause-written g c = λ old text h. refused_write c.from_residual.result c.args.written h c.in_err-written.was c.from_residual.ensures.0

pub returns-in_err-flush-clause-written : goal.returns-in_err-flush-clause-written
returns-in_err-flush-clause-written g c = λ old text h.
    writes_whole old (g.O.Write.contents c.args.out.now) (g.O.Write.contents c.flush.new.self) text c.from_residual-in_err-flush.result (wrote h c.in_ok-written.was) c.flush.ensures.bytes

pub returns-clause-written : goal.returns-clause-written
returns-clause-written g c = λ old text h.
    writes_whole old (g.O.Write.contents c.args.out.now) (g.O.Write.contents c.flush.new.self) text _ (wrote h c.in_ok-written.was) c.flush.ensures.bytes
