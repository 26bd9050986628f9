use Rattle.std.proofs.Common.{drop, flat_map, length, ◌+◌, arith}
use Rattle.runs.proofs.Printed.{node_next, nodes_done}
use Rattle.runs.specs.Commands.{node_text}
use Rattle.model.specs.World.{below}
use Rattle.eventkey.proofs.Writers.{writes_broken, writes_end, written_next}
use Rattle.runs.proofs.commands.printing.write_nodes.Goals as goal

pub returns-in_err-write_node : goal.returns-in_err-write_node
returns-in_err-write_node g c =
    writes_broken (flat_map (node_text c.args.handled_per_node.now) (drop (c.loop-node.node + 1) (below (length c.args.handled_per_node.now)))) c.from_residual.result c.loop-node.invariant
    (node_next c.args.handled_per_node.now c.loop-node.node (omega arith)) c.write_node.ensures c.in_err-write_node.was c.from_residual.ensures.0

pub loop-node-preserved : goal.loop-node-preserved
loop-node-preserved g c =
    written_next (flat_map (node_text c.args.handled_per_node.now) (drop (c.loop-node.node + 1) (below (length c.args.handled_per_node.now)))) c.loop-node.invariant
    (node_next c.args.handled_per_node.now c.loop-node.node (omega arith)) c.write_node.ensures c.in_ok-write_node.was

pub returns : goal.returns
returns g c = writes_end tt (nodes_done c.args.handled_per_node.now c.loop-node.node (omega arith)) c.loop-node.invariant
