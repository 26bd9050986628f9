use Rattle.std.proofs.Common.{◌≡◌, ◌≤◌, ◌++◌, ◌∙◌, List, ℕ, length, ap, arith}
use Rattle.disk.specs.Growth.{grown_to}
use Rattle.disk.specs.KeptSectors.{SectorList}
use Rattle.disk.proofs.Keeping.{all_of, grow_kept, length-all}
use Rattle.disk.proofs.kept.Sectors.grown.Goals as goal

pub returns : goal.returns
returns c =
    let kept : List (List ℕ) = c.self.inside.kept.items in
    let old : ℕ = c.self.inside.count in
    let same : c.extend_from_slice.new.self.items ≡ kept =
    c.in_ok-extend_from_slice.ensures.items
    ∙ ap (λ (l : List (List ℕ)). l ++ c.deref.result.now) c.in_ok-kept.ensures.items ∙ c.deref.ensures.value in
    let more : old ≤ c.args.count = omega (arith, c.requires, ap (λ (s : SectorList). length s.items) c.self.view_is, length-all old kept c.self.invariant.within) in
    record {
      items = ap (all_of c.args.count) same
          ∙ grow_kept old c.args.count kept c.self.invariant.within more
          ∙ ap (λ (s : SectorList). grown_to c.args.count s.items) c.self.view_is;
    }
