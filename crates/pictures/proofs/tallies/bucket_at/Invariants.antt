use Rattle.std.proofs.Common.{◌≡◌, ◌≤◌, ◌+◌, take}
use Rattle.pictures.specs.Levels.{total}
use Rattle.pictures.proofs.tallies.bucket_at.Given as goal

abbrev pub invariant-loop-bucket : goal.invariant-loop-bucket
invariant-loop-bucket l = record {
  passed : total (take l.bucket l.counts) + l.left ≡ l.rank;
  some : 1 ≤ l.rank → 1 ≤ l.left;
}
