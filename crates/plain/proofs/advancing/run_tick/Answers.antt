use Rattle.std.proofs.Common.{◌+◌, arith, min}
use Rattle.std.proofs.lemmas.Result.{on_ok_weaker}
use Rattle.model.specs.declared.WorldFault.TheVariants.{NumberLimit}
use Rattle.plain.proofs.Ways.{at_limit, on_err_of, before-it, early, idle-before, went_on}
use Rattle.plain.proofs.advancing.run_tick.Goals as goal

pub returns-clause-on : goal.returns-clause-on
returns-clause-on g c =
    let w = c.args.world.now.world in
    let later = before-it c.in-Some.least w c.in-Some.ensures.least c.in-Some.ensures.ascending w.time c.requires.left in
    let soon = early c.in-Some.least w c.in-Some.ensures.least c.in-Some.ensures.ascending c.args.world.now.end c.requires.due in
    on_ok_weaker c.run_to.result
    (went_on (g.M.Model.meaning c.args.model.now) c.args.world.now.end _ w c.run_to.new.self.world (omega arith) (omega (arith, later, soon, c.time.ensures)))
    c.run_to.ensures.ok

pub returns-clause-tick : goal.returns-clause-tick
returns-clause-tick g c =
    let w = c.args.world.now.world in
    let x = c.in-Some.least in
    let later = before-it x w c.in-Some.ensures.least c.in-Some.ensures.ascending w.time c.requires.left in
    let soon = early x w c.in-Some.ensures.least c.in-Some.ensures.ascending c.args.world.now.end c.requires.due in
    on_ok_weaker c.run_to.result
    (λ ran. (x.time, idle-before x w c.in-Some.ensures.least c.in-Some.ensures.ascending x.time (omega arith), later, omega (arith, ran.time, later, soon, c.time.ensures)))
    c.run_to.ensures.ok

pub returns-clause-limit : goal.returns-clause-limit
returns-clause-limit g c = λ upto is.
    at_limit (g.M.Model.meaning c.args.model.now) c.args.world.now.end (min (c.time.result + 1) c.args.world.now.end) c.args.world.now.world c.run_to.new.self.world (omega arith) upto
    (on_err_of c.run_to.result NumberLimit is c.run_to.ensures.err) (c.run_to.ensures.limit.0 is)
