use Rattle.std.specs.List.{AllByRecursion as Every}
use Rattle.node.specs.Handling.{IsInRange}
use Rattle.bench.proofs.whole_node.loaded.Given as goal

abbrev pub invariant-loop-lp : goal.invariant-loop-lp
invariant-loop-lp g l = Every IsInRange l.parts.items
