use Rattle.std.proofs.Common.{inr}
use Rattle.frames.proofs.Reacting.{fault_unwritten}
use Rattle.frames.proofs.reaction.respond.Goals as goal

pub returns-in_err-frame-in-Err-clause-exact : goal.returns-in_err-frame-in-Err-clause-exact
returns-in_err-frame-in-Err-clause-exact c =
    inr (fault_unwritten c.in-Err.fault c.in_err-frame-in-Err.field-0.0 c.from_residual-in_err-frame-in-Err.result c.from_residual-in_err-frame-in-Err.ensures.1 c.in_err-frame-in-Err.ensures)
