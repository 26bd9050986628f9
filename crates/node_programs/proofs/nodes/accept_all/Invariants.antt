use Rattle.std.proofs.Common.{◌≡◌, length}
use Rattle.node_programs.proofs.nodes.accept_all.Given as goal

abbrev pub invariant-nodes : goal.invariant-nodes
invariant-nodes g l = length l.streams.items ≡ l.node
