use Rattle.std.proofs.Common.{arith, drop}
use Rattle.model.proofs.Runs.{first_is, idle_late}
use Rattle.pictures.proofs.counted.due.Goals as goal

pub returns-then-time-clause-none : goal.returns-then-time-clause-none
returns-then-time-clause-none c = λ e.
    let w = c.args.world.now.world in
    let x = c.in_ok-least.least in
    idle_late c.args.time w x (drop 1 w.pending) c.in_ok-least.ensures.ascending (first_is w.pending x c.in_ok-least.ensures.least) (omega (arith, c.time.ensures))
