use Rattle.std.proofs.Common.{◌-◌, ◌≡◌}
use Rattle.models.proofs.Rings.{HasSent}
use Rattle.models.proofs.ring.first_sends.Given as goal

abbrev pub invariant-loop-token : goal.invariant-loop-token
invariant-loop-token l = record {
  sent : HasSent l.lps l.lp l.tokens l.token l.sends.items;
  room : l.sends.capacity ≡ 8;
}

abbrev pub decreases-loop-token : goal.decreases-loop-token
decreases-loop-token l = l.tokens - l.token
