use Rattle.std.proofs.Common.{ℕ, arith, min, subst}
use Rattle.std.proofs.lemmas.Result.{on_ok_weaker}
use Rattle.model.specs.Runner.{IsIdle}
use Rattle.plain.proofs.Ways.{same-log, went_on}
use Rattle.plain.proofs.advancing.finish.Goals as goal

pub returns-clause-on : goal.returns-clause-on
returns-clause-on g c =
    on_ok_weaker c.run_to.result
    (went_on (g.M.Model.meaning c.args.model.now) c.args.world.now.end (min c.next_time-bound.result c.args.world.now.end) c.args.world.now.world c.run_to.new.self.world (omega arith)
    (let l = c.next_time-bound.ensures.later c.args.world.now.world.time c.requires.left c.requires.within in omega (arith, l, c.requires.within)))
    c.run_to.ensures.ok

pub returns-clause-log : goal.returns-clause-log
returns-clause-log g c =
    on_ok_weaker c.run_to.result
    (same-log (g.M.Model.meaning c.args.model.now) (min c.next_time-bound.result c.args.world.now.end) c.args.world.now.world c.run_to.new.self.world
    (subst (λ (t : ℕ). IsIdle t c.args.world.now.world) (let w = c.next_time-bound.ensures.within in omega (arith, w)) c.next_time-bound.ensures.left))
    c.run_to.ensures.ok
