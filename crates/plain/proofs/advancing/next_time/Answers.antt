use Rattle.std.proofs.Common.{arith}
use Rattle.plain.proofs.Ways.{before-it, idle-before}
use Rattle.plain.proofs.advancing.next_time.Goals as goal

pub returns-clause-left : goal.returns-clause-left
returns-clause-left c = idle-before c.in-Some.least c.args.world.now.world c.in-Some.ensures.least c.in-Some.ensures.ascending c.min.result (omega (arith, c.min.ensures, c.time.ensures))

pub returns-clause-end : goal.returns-clause-end
returns-clause-end c = λ idle.
    let l = before-it c.in-Some.least c.args.world.now.world c.in-Some.ensures.least c.in-Some.ensures.ascending c.args.world.now.end idle in
    omega (arith, c.min.ensures, c.time.ensures, c.end-2.ensures, l)

pub returns-clause-later : goal.returns-clause-later
returns-clause-later c = λ time idle within.
    let l = before-it c.in-Some.least c.args.world.now.world c.in-Some.ensures.least c.in-Some.ensures.ascending time idle in
    omega (arith, c.min.ensures, c.time.ensures, c.end-2.ensures, l, within)
