use Rattle.std.proofs.lemmas.Result.{IfOk-weaker}
use Rattle.std.proofs.lemmas.List.Elements.{same_from_all_zip}
use Rattle.disk.proofs.kept.zeros.Goals as goal

pub returns : goal.returns
returns c = IfOk-weaker c.vec.result _ _ (λ sectors given. given (λ y clone. same_from_all_zip _ _ _ clone.whole (λ a b same. same))) c.vec.ensures.items_if_clones_equal
