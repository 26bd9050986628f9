use Rattle.std.proofs.Common.{◌≡◌, take}
use Rattle.std.specs.List.{AllByRecursion as Every}
use Rattle.process.specs.View.{IsDoneInRange}
use Rattle.process.proofs.reports.Reports.from_slice.Given as goal

abbrev pub invariant-loop-done : goal.invariant-loop-done
invariant-loop-done l = record {
  so_far : l.reports ≡ take l.done-index l.handlings;
  range : Every IsDoneInRange (take l.done-index l.handlings);
}
