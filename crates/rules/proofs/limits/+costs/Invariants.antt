use Rattle.std.proofs.Common.{◌≡◌, ◌<◌, ◌+◌, ◌-◌, ◌^◌, drop, min}
use Rattle.rules.specs.Costs.{cost_of_all}
use Rattle.rules.proofs.limits.+costs.Given as goal

abbrev pub invariant-block_cost-statements : goal.invariant-block_cost-statements
invariant-block_cost-statements l = record {
  fits : l.cost < 2 ^ 64;
  rest : min (l.cost + cost_of_all l.limit (drop l.statement-index l.block)) (2 ^ 64 - 1) ≡ min (cost_of_all l.limit l.block) (2 ^ 64 - 1);
}
