use Rattle.std.proofs.Common.{◌≡◌, ◌≤◌, ◌<◌, ℕ, false, get_or}
use Rattle.disk.proofs.storing.alike_up_to.Given as goal

abbrev pub invariant-loop-n : goal.invariant-loop-n
invariant-loop-n l = (k : ℕ) → l.from ≤ k → k < l.n → get_or l.dirty k false ≡ l.is
