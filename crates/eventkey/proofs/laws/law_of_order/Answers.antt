use Rattle.eventkey.proofs.Bags.{messages_are_ordered}
use Rattle.eventkey.proofs.laws.law_of_order.Goals as goal

pub returns : goal.returns
returns c = messages_are_ordered
