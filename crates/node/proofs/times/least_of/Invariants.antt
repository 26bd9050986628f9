use Rattle.std.proofs.Common.{◌≡◌, ◌≤◌, drop, min}
use Rattle.node.specs.Times.{least_in, never}
use Rattle.node.proofs.times.least_of.Given as goal

abbrev pub invariant-loop-time : goal.invariant-loop-time
invariant-loop-time l = record {
  most : l.least ≤ never;
  is : min l.least (least_in (drop l.time-index l.times)) ≡ least_in l.times;
}
