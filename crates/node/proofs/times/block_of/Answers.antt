use Rattle.std.proofs.Common.{◌-◌, ◌*◌, arith}
use Rattle.node.proofs.Bounds.{block_slice}
use Rattle.node.proofs.times.block_of.Goals as goal

pub returns : goal.returns
returns c =
    let end = c.min-end.ensures in
    block_slice c.args.block (c.min-end.result - c.args.block * 32) c.args.times.now (omega arith)
