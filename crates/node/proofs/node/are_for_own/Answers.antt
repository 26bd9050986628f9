use Rattle.std.proofs.Common.{◌≡◌, subst, List, refl}
use Rattle.std.specs.List.{AllByRecursion as Every}
use Rattle.eventkey.specs.Message.{Message}
use Rattle.node.proofs.Loads.{every_more}
use Rattle.node.specs.declared.Part.{Part}
use Rattle.node.proofs.node.are_for_own.Goals as goal

pub loop-part-preserved : goal.loop-part-preserved
loop-part-preserved c =
    let fits : Every (λ (x : Message). x.to ≡ c.part-item.result.lp) c.as_slice.result.now = c.if-not-are_for.ensures.0 refl in
    every_more (λ (p : Part). Every (λ (x : Message). x.to ≡ p.lp) p.pending) c.args.parts.now c.loop-part.part-index c.part-item.result c.loop-part-test.true c.part-item.is
    (subst (λ (xs : List Message). Every (λ (x : Message). x.to ≡ c.part-item.result.lp) xs) c.as_slice.ensures fits) c.loop-part.invariant
