use Rattle.std.proofs.Common.{◌≡◌}
use Rattle.node.proofs.Bounds.{IsLeastSoFar}
use Rattle.node.specs.Times.{AreTimes}
use Rattle.node.proofs.times.Times.least.Given as goal

abbrev pub invariant-loop-block : goal.invariant-loop-block
invariant-loop-block l = record {
  times_are : l.self-inside.times.items ≡ l.fn.self;
  bounded : AreTimes l.self-inside.times.items l.self-inside.bounds.items;
  so_far : IsLeastSoFar l.self-inside.times.items l.block l.least;
}
