use Rattle.std.proofs.Common.{◌≡◌, length, map}
use Rattle.model.specs.World.{below}
use Rattle.models.specs.JobShop.{first_job}
use Rattle.models.proofs.job_shop.JobShop.first_sends.Given as goal

abbrev pub invariant-sends : goal.invariant-sends
invariant-sends l = record {
  sent : l.sends.items ≡ map (first_job l.self.shop l.lp) (below l.k);
  count : length l.sends.items ≡ l.k;
  room : l.sends.capacity ≡ 8;
}
