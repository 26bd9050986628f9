use Rattle.std.proofs.Common.{◌≡◌, ◌<◌, List, ℕ, get_or, length, set, ◌∙◌, ap, subst, sym, arith}
use Rattle.std.proofs.lemmas.List.{get_or_default}
use Rattle.node.proofs.Summaries.{blocks_with_oldest}
use Rattle.node.specs.Blocks.{AreBlocks, with_oldest}
use Rattle.node.specs.Times.{ticks_of}
use Rattle.node.specs.Tournament.{absent}
use Rattle.node.specs.declared.summary.Summary.{Summary}
use Rattle.node.proofs.blocks.Blocks.set_oldest.Goals as goal

pub invariant_of-self : goal.invariant_of-self
invariant_of-self c =
    let xs : List Summary = c.self.inside.summaries.items in
    let lows : List ℕ = c.self.inside.lows in
    let oldest : List ℕ = c.self.inside.oldest in
    let place : ℕ = c.args.place in
    let there : place < length xs = let inside = c.requires in let seen = ap length c.self.view_is in omega arith in
    let was : c.index_mut.result.now ≡ get_or xs place absent = c.index_mut.ensures.value ∙ get_or_default xs place c.index_mut.result.now absent there in
    let old : c.set.new.self ≡ set oldest place (ticks_of c.args.oldest) = c.set.ensures ∙ ap (set oldest place) c.ticks_of.ensures in
    subst (λ (s : Summary). AreBlocks (set xs place (with_oldest c.args.oldest s)) lows c.set.new.self) (sym was)
    (subst (AreBlocks (set xs place (with_oldest c.args.oldest (get_or xs place absent))) lows) (sym old) (blocks_with_oldest xs lows oldest place c.args.oldest c.self.invariant there))
