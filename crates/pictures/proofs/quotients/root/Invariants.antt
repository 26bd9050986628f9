use Rattle.std.proofs.Common.{◌<◌, ◌≤◌, ◌*◌, ◌-◌, ◌^◌}
use Rattle.pictures.proofs.quotients.root.Given as goal

abbrev pub invariant-halvings : goal.invariant-halvings
invariant-halvings l = record {
  apart : l.low < l.high;
  within : l.high ≤ 2 ^ 64;
  least : l.low * l.low ≤ l.number;
  most : l.number < l.high * l.high;
}

abbrev pub decreases-halvings : goal.decreases-halvings
decreases-halvings l = l.high - l.low
