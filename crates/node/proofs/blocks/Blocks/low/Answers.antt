use Rattle.std.proofs.Common.{List, ◌∙◌, ap}
use Rattle.node.proofs.Summaries.{low_is, low_ranged}
use Rattle.node.specs.Tournament.{least_among}
use Rattle.node.specs.declared.summary.Summary.{Summary}
use Rattle.node.proofs.blocks.Blocks.low.Goals as goal

pub returns-clause-low : goal.returns-clause-low
returns-clause-low c =
    low_is c.self.inside.summaries.items c.self.inside.lows c.self.inside.oldest c.least.result c.time_of.result c.self.invariant c.least.ensures.least c.time_of.ensures
    ∙ ap (λ (xs : List Summary). (least_among xs).low) c.self.view_is

pub returns-clause-range : goal.returns-clause-range
returns-clause-range c =
    low_ranged c.self.inside.summaries.items c.self.inside.lows c.self.inside.oldest c.time_of.result c.self.invariant
    (low_is c.self.inside.summaries.items c.self.inside.lows c.self.inside.oldest c.least.result c.time_of.result c.self.invariant c.least.ensures.least c.time_of.ensures)
