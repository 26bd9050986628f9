use Rattle.std.proofs.Common.{ℕ, List, ap, subst, ◌∙◌}
use Rattle.std.specs.Prelude.{IfSome, slice_set}
use Rattle.segments.specs.Archiving.{IsBegunAt}
use Rattle.commitlog.specs.Records.{open_bytes}
use Rattle.disk.specs.Laws.{looks_on}
use Rattle.views.specs.Reading.{BeginsWith}
use Rattle.views.proofs.beginnings.Beginning.behind_gate.Goals as goal

pub returns-clause-begins : goal.returns-clause-begins
returns-clause-begins g c =
    subst (λ (r : List (List ℕ)). BeginsWith (g.M.Model.meaning c.args.model.now).lps r c.beginning_on.result.origin)
    (c.in-Ok.ensures.copied ∙ ap (λ (r : List (List ℕ)). slice_set r 0 open_bytes) c.may_have_origin.ensures.looks.same) c.beginning_on.ensures.begins

pub returns-clause-at : goal.returns-clause-at
returns-clause-at g c =
    subst (λ (r : List (List ℕ)). IfSome c.beginning_on.result.origin (λ o. IsBegunAt r c.beginning_on.result.time))
    (c.in-Ok.ensures.copied ∙ ap (λ (r : List (List ℕ)). slice_set r 0 open_bytes) c.may_have_origin.ensures.looks.same) c.beginning_on.ensures.at

pub returns-clause-looks : goal.returns-clause-looks
returns-clause-looks g c = looks_on _ _ _ c.may_have_origin.ensures.looks c.copy_opened.ensures.looks
