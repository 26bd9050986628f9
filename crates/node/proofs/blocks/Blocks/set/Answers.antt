use Rattle.std.proofs.Common.{◌≡◌, List, ℕ, set, ◌∙◌, ap, subst, sym}
use Rattle.node.proofs.Summaries.{blocks_with}
use Rattle.node.specs.Blocks.{AreBlocks}
use Rattle.node.specs.Times.{ticks_of}
use Rattle.node.specs.declared.summary.Summary.{Summary}
use Rattle.node.proofs.blocks.Blocks.set.Goals as goal

pub invariant_of-self : goal.invariant_of-self
invariant_of-self c =
    let xs : List Summary = c.self.inside.summaries.items in
    let lows : List ℕ = c.self.inside.lows in
    let oldest : List ℕ = c.self.inside.oldest in
    let place : ℕ = c.args.place in
    let summary : Summary = c.args.summary in
    let low : c.set.new.self ≡ set lows place (ticks_of summary.low) = c.set.ensures ∙ ap (set lows place) c.ticks_of.ensures in
    let old : c.set-2.new.self ≡ set oldest place (ticks_of summary.oldest) = c.set-2.ensures ∙ ap (set oldest place) c.ticks_of-2.ensures in
    subst (λ (ts : List ℕ). AreBlocks (set xs place summary) ts c.set-2.new.self) (sym low)
    (subst (AreBlocks (set xs place summary) (set lows place (ticks_of summary.low))) (sym old) (blocks_with xs lows oldest place summary c.self.invariant c.requires.range))
