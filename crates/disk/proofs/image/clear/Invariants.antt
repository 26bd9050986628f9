use Rattle.std.proofs.Common.{◌≡◌, ◌≤◌, ◌<◌, ℕ, true, false, get_or, length}
use Rattle.disk.proofs.image.clear.Given as goal

abbrev pub invariant-loop-n : goal.invariant-loop-n
invariant-loop-n l = record {
  size : length l.dirty ≡ length l.fn.dirty;
  left : (k : ℕ) → get_or l.dirty k false ≡ true → (l.n ≤ k) × (k < l.end);
}
