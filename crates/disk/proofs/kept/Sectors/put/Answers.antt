use Rattle.std.proofs.Common.{◌<◌, ◌∙◌, List, ℕ, set, length, ap, arith}
use Rattle.disk.specs.KeptSectors.{SectorList}
use Rattle.disk.proofs.Keeping.{set_kept}
use Rattle.disk.proofs.kept.Sectors.put.Goals as goal

pub returns-clause-items : goal.returns-clause-items
returns-clause-items c =
    let kept : List (List ℕ) = c.self.inside.kept.items in
    let within : c.args.n < length kept = omega (arith, c.keep.ensures.kept, ap (λ (s : SectorList). s.kept) c.self.view_is) in
    set_kept c.self.inside.count kept c.args.n c.args.sector.now within
    ∙ ap (λ (l : List (List ℕ)). set l c.args.n c.args.sector.now)
    (ap (λ (s : SectorList). s.items) c.self.view_is ∙ c.keep.ensures.items)
