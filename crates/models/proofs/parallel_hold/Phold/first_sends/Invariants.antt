use Rattle.std.proofs.Common.{◌≡◌, length, map}
use Rattle.model.specs.World.{below}
use Rattle.models.specs.Phold.{first_hold}
use Rattle.models.proofs.parallel_hold.Phold.first_sends.Given as goal

abbrev pub invariant-sends : goal.invariant-sends
invariant-sends l = record {
  sent : l.sends.items ≡ map (first_hold l.self.hold l.lp) (below l.k);
  count : length l.sends.items ≡ l.k;
  room : l.sends.capacity ≡ 8;
}
