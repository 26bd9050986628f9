use Rattle.std.proofs.Common.{[], sym, inr}
use Rattle.std.proofs.lemmas.List.{append-nil}
use Rattle.eventkey.proofs.Writers.{at_ok}
use Rattle.program.proofs.running.run_traced.Goals as goal

-- the run has printed its output, but a part of the trace was not written
pub returns-clause-err : goal.returns-clause-err
returns-clause-err g c =
    let p = at_ok c.in_ok-outcome.was c.run_with-outcome.ensures.ok in
    inr (p.0, p.1, record { taken = p.0; left = []; whole = sym (append-nil p.0); appended = p.2 })
