use Rattle.std.proofs.Common.{arith}
use Rattle.models.specs.Ring.{ring_meaning}
use Rattle.tests_kernel.proofs.processes.Alone.collect.Goals as goal

pub invariant_of-self : goal.invariant_of-self
invariant_of-self c =
    let same = (c.collect.ensures.kept (ring_meaning c.self.inside.ring.ring)).lp in
    let there = c.self.invariant in
    omega (arith, same, there)
