use Rattle.std.proofs.Common.{◌≡◌, arith, length}
use Rattle.node_programs.proofs.nodes.accept_all.Goals as goal

pub returns : goal.returns
returns g c = omega (arith, c.nodes.invariant, c.nodes-test.false, c.nodes.auto.node-end)
