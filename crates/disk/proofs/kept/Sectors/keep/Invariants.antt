use Rattle.std.proofs.Common.{◌≡◌, ◌-◌, ◌+◌, ◌≤◌, ◌<◌, length, vec_capacity}
use Rattle.disk.proofs.Keeping.{all_of}
use Rattle.disk.proofs.kept.Sectors.keep.Given as goal

abbrev pub invariant-loop-self : goal.invariant-loop-self
invariant-loop-self l = record {
  same : all_of l.self-inside.count l.self-inside.kept.items ≡ l.fn.self.items;
  more : l.fn.self.kept ≤ length l.self-inside.kept.items;
  within : length l.self-inside.kept.items ≤ l.self-inside.count;
  room : l.self-inside.count ≤ vec_capacity l.self-inside.kept;
  there : l.n < l.self-inside.count;
}

abbrev pub decreases-loop-self : goal.decreases-loop-self
decreases-loop-self l = l.n + 1 - length l.self-inside.kept.items
