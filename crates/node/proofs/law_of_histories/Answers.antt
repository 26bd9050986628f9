use Rattle.node.proofs.Histories.{histories_begin}
use Rattle.node.proofs.law_of_histories.Goals as goal

pub returns : goal.returns
returns c = histories_begin
