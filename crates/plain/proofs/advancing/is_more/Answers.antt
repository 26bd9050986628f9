use Rattle.std.proofs.Common.{arith, inr}
use Rattle.std.proofs.lemmas.Bool.{ltb-false}
use Rattle.plain.proofs.Ways.{idle-before}
use Rattle.plain.proofs.advancing.is_more.Goals as goal

pub returns-then-log-before-clause-enough : goal.returns-then-log-before-clause-enough
returns-then-log-before-clause-enough c = λ is.
    let late = ltb-false c.time.result c.end.result is in
    inr (idle-before c.in-Some.least c.args.world.now.world c.in-Some.ensures.least c.in-Some.ensures.ascending c.args.world.now.end (omega (arith, late, c.time.ensures, c.end.ensures)))
