use Rattle.eventkey.proofs.Bags.{copies-add, copies-remove_one, IsAscending-add, IsAscending-remove_one, same_ascending}
use Rattle.eventkey.proofs.laws.law_of_bags.Goals as goal

pub returns : goal.returns
returns c = record { added = copies-add; removed = copies-remove_one; add_ascends = IsAscending-add; remove_ascends = IsAscending-remove_one; same = same_ascending }
