use Rattle.std.proofs.Common.{List, subst, arith}
use Rattle.node.proofs.Summaries.{length-oldest, quiet_by_times}
use Rattle.node.specs.Blocks.{IsQuietFrom}
use Rattle.node.specs.declared.summary.Summary.{Summary}
use Rattle.node.proofs.blocks.Blocks.first_due.Goals as goal

pub returns-clause-quiet : goal.returns-clause-quiet
returns-clause-quiet c =
    let size = length-oldest c.self.inside.summaries.items c.self.inside.lows c.self.inside.oldest c.self.invariant in
    let within = c.first_before.ensures.within in
    subst (λ (xs : List Summary). IsQuietFrom c.args.floor xs c.args.from c.first_before.result) c.self.view_is
    (quiet_by_times c.args.floor c.self.inside.summaries.items c.self.inside.lows c.self.inside.oldest c.args.from c.first_before.result c.self.invariant (omega arith) c.first_before.ensures.none)
