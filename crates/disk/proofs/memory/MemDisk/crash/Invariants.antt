use Rattle.std.proofs.Common.{◌≡◌, ◌*◌, ◌<◌, ℕ, [], get_or, length}
use Rattle.std.specs.Simd.{first_chunks}
use Rattle.disk.specs.Disk.{IsSector}
use Rattle.disk.specs.Memory.{crash_content}
use Rattle.disk.proofs.memory.MemDisk.crash.Given as goal

abbrev pub invariant-loop-n : goal.invariant-loop-n
invariant-loop-n l = record {
  size : length l.bytes.items ≡ l.n * 512;
  so_far : (k : ℕ) → k < l.n → get_or (first_chunks 512 l.n l.bytes.items) k [] ≡ crash_content l.torn l.self k;
  whole : (k : ℕ) → k < l.n → IsSector (crash_content l.torn l.self k);
}
