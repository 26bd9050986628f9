use Rattle.std.proofs.Common.{ℕ, ◌≡◌, ◌++◌, [], drop, get_or, length, replicate}
use Rattle.pictures.specs.Inside.{lists}
use Rattle.pictures.specs.Run.{sent_in}
use Rattle.pictures.proofs.traced.times_of.Given as goal

abbrev pub invariant-loop-place : goal.invariant-loop-place
invariant-loop-place l = record {
  rows : length l.rows.items ≡ length l.first;
  times : (lp : ℕ) → get_or (lists l.rows.items) lp [] ++ sent_in lp (drop l.place l.events) (drop l.place l.sends)
      ≡ replicate (get_or l.first lp 0) 0 ++ sent_in lp l.events l.sends;
}
