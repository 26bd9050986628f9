use Rattle.std.proofs.Common.{◌∙◌}
use Rattle.upkeep.proofs.inspection.part.PartDisk.of.Goals as goal

pub invariant_of-result : goal.invariant_of-result
invariant_of-result g c =
    (c.count.ensures.few, (c.in_ok-dirty.ensures.size ∙ c.count.ensures.count, (c.count.ensures.whole, (λ _. c.in_ok-dirty.ensures.in_sync, (c.in_ok-failing.ensures.stopped, tt)))))

pub returns-clause-size : goal.returns-clause-size
returns-clause-size g c = c.in_ok-hold_part.ensures.count ∙ c.in_ok-held.ensures
