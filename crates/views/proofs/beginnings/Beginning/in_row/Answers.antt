use Rattle.std.proofs.Common.{ℕ, List, ap, take, ◌∙◌}
use Rattle.upkeep.specs.Rows.{row_of}
use Rattle.views.proofs.Segments.{begins_in_row, time_in_row}
use Rattle.views.proofs.beginnings.Beginning.in_row.Goals as goal

pub returns-clause-begins : goal.returns-clause-begins
returns-clause-begins g c =
    begins_in_row (g.M.Model.meaning c.args.model.now).lps (g.D.SectorDisk.state c.args.disk.now).reads c.beginning_of.result.origin c.as_slice.result.now
    (c.as_slice.ensures.value ∙ c.in-Ok.ensures.first ∙ ap (λ (r : List (List ℕ)). take 2 (row_of r)) c.may_have_origin_in_row.ensures.looks.same) c.beginning_of.ensures.begins

pub returns-clause-at : goal.returns-clause-at
returns-clause-at g c =
    time_in_row (g.D.SectorDisk.state c.args.disk.now).reads c.beginning_of.result.origin c.as_slice.result.now c.beginning_of.result.time
    (c.as_slice.ensures.value ∙ c.in-Ok.ensures.first ∙ ap (λ (r : List (List ℕ)). take 2 (row_of r)) c.may_have_origin_in_row.ensures.looks.same) c.beginning_of.ensures.at
