use Rattle.node.proofs.Summaries.{blocks_new}
use Rattle.node.proofs.Tournaments.{grown}
use Rattle.node.proofs.blocks.Blocks.new.Goals as goal

pub invariant_of-result : goal.invariant_of-result
invariant_of-result c =
    blocks_new c.args.places c.resize.new.self.items c.in_ok-lows.lows c.in_ok-oldest.oldest
    (grown _ c.args.places c.new-summaries.result.items c.resize.new.self.items c.new-summaries.result.len c.new-summaries.ensures.items c.new-summaries.ensures.len c.in_ok-resize.ensures.items)
    c.in_ok-lows.ensures c.in_ok-oldest.ensures
