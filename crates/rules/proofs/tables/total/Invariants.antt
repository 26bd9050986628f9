use Rattle.std.proofs.Common.{◌≡◌, ◌<◌, ◌+◌, ◌-◌, ◌^◌, drop, min}
use Rattle.rules.specs.Distributions.{total as total_of}
use Rattle.rules.proofs.tables.total.Given as goal

abbrev pub invariant-numbers : goal.invariant-numbers
invariant-numbers l = record {
  fits : l.sum < 2 ^ 64;
  rest : min (l.sum + total_of (drop l.number-index l.numbers)) (2 ^ 64 - 1) ≡ min (total_of l.numbers) (2 ^ 64 - 1);
}
