use Rattle.std.proofs.Common.{drop, flat_map, length}
use Rattle.runs.specs.Commands.{node_text}
use Rattle.model.specs.World.{below}
use Rattle.eventkey.proofs.Writers.{HasWritten}
use Rattle.runs.proofs.commands.printing.write_nodes.Given as goal

abbrev pub invariant-loop-node : goal.invariant-loop-node
invariant-loop-node g l =
    HasWritten (g.O.Write.contents l.initial.out) (g.O.Write.contents l.out)
    (flat_map (node_text l.handled_per_node) (below (length l.handled_per_node))) (flat_map (node_text l.handled_per_node) (drop l.node (below (length l.handled_per_node))))
