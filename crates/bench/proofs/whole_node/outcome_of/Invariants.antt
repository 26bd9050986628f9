use Rattle.std.proofs.Common.{◌≡◌}
use Rattle.bench.proofs.whole_node.outcome_of.Given as goal

abbrev pub invariant-loop : goal.invariant-loop
invariant-loop g l = (g.M.Model.meaning l.model).lps ≡ l.node.lps
