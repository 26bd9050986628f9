use Rattle.std.proofs.Common.{◌∙◌, Err, ap, sym}
use Rattle.runs.specs.Simulation.{as_simulated}
use Rattle.runs.proofs.simulating.run.Goals as goal

pub returns-in-Ok : goal.returns-in-Ok
returns-in-Ok g c = record { run = (c.run_local-disk.result.outcome, c.run_local-disk.ensures.run, sym (ap as_simulated c.in-Ok.is)) }

pub returns-in-Err : goal.returns-in-Err
returns-in-Err g c = record { run = (c.run_local-disk.result.outcome, c.run_local-disk.ensures.run, ap Err c.into.ensures ∙ sym (ap as_simulated c.in-Err.is)) }
