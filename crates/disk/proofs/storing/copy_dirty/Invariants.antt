use Rattle.std.proofs.Common.{◌≡◌, ◌<◌, ℕ, [], false, get_or, length}
use Rattle.disk.proofs.storing.copy_dirty.Given as goal

abbrev pub invariant-loop-n : goal.invariant-loop-n
invariant-loop-n l = record {
  size : length l.synced ≡ length l.image.sectors.items;
  in_sync : (k : ℕ) → get_or l.image.dirty.items k false ≡ false → get_or l.synced k [] ≡ get_or l.image.sectors.items k [];
  done : (k : ℕ) → k < l.n → get_or l.synced k [] ≡ get_or l.image.sectors.items k [];
}
