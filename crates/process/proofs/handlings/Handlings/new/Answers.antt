use Rattle.process.proofs.HandlingBytes.{nothing_held}
use Rattle.process.proofs.handlings.Handlings.new.Goals as goal

pub invariant_of-result : goal.invariant_of-result
invariant_of-result c = (nothing_held c.new.result.items c.new-2.result.items c.new.ensures.items c.new-2.ensures.items).are

pub returns : goal.returns
returns c = (nothing_held c.new.result.items c.new-2.result.items c.new.ensures.items c.new-2.ensures.items).value
