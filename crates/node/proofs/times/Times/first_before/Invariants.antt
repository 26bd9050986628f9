use Rattle.std.proofs.Common.{◌≡◌, ◌≤◌, ◌-◌, length}
use Rattle.node.specs.Times.{AreFrom, AreTimes}
use Rattle.node.proofs.times.Times.first_before.Given as goal

abbrev pub invariant-loop-place : goal.invariant-loop-place
invariant-loop-place l = record {
  times_are : l.self-inside.times.items ≡ l.fn.self;
  bounded : AreTimes l.self-inside.times.items l.self-inside.bounds.items;
  after : l.from ≤ l.place;
  within : l.place ≤ length l.self-inside.times.items;
  late : AreFrom l.limit l.self-inside.times.items l.from l.place;
}

abbrev pub decreases-loop-place : goal.decreases-loop-place
decreases-loop-place l = length l.self-inside.times.items - l.place
