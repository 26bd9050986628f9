use Rattle.std.proofs.Common.{ℕ, List, subst, sym}
use Rattle.std.proofs.lemmas.Result.{IfOk-at_ok}
use Rattle.std.specs.Prelude.{IfSome}
use Rattle.disk.specs.Laws.{looks_on}
use Rattle.segments.specs.Archiving.{IsBegunAt}
use Rattle.views.proofs.beginnings.BegunDisk.of.Goals as goal

pub returns-in-Ok-clause-at : goal.returns-in-Ok-clause-at
returns-in-Ok-clause-at g c =
    subst (λ (r : List (List ℕ)). IfSome c.in-Ok.origin (λ o. IsBegunAt r c.in-Ok.time)) (sym c.origin_on-disk.ensures.looks.same)
    (IfOk-at_ok _ c.in-Ok.is c.origin_on-disk.ensures.at)

pub returns-in-Ok-clause-looks : goal.returns-in-Ok-clause-looks
returns-in-Ok-clause-looks g c = looks_on _ _ _ c.may_have_origin.ensures.looks c.origin_on-disk.ensures.looks

pub returns-in-Err-clause-looks : goal.returns-in-Err-clause-looks
returns-in-Err-clause-looks g c = looks_on _ _ _ c.may_have_origin.ensures.looks c.origin_on-disk.ensures.looks
