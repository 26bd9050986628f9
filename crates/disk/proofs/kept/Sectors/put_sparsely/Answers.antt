use Rattle.std.proofs.Common.{◌≡◌, ◌<◌, ◌≤◌, List, ℕ, length, ap, arith}
use Rattle.disk.specs.KeptSectors.{SectorList}
use Rattle.disk.proofs.Keeping.{length-all, set_zero, zero_sector}
use Rattle.disk.proofs.kept.Sectors.put_sparsely.Goals as goal

pub returns-else-not-is_zero-clause-items : goal.returns-else-not-is_zero-clause-items
returns-else-not-is_zero-clause-items c =
    let kept : List (List ℕ) = c.self.inside.kept.items in
    let count : ℕ = c.self.inside.count in
    let past : length kept ≤ c.args.n = omega (arith, c.if-n-len.false, c.len.ensures, c.self.inside.kept.ok.0) in
    let within : c.args.n < count = omega (arith, c.requires, ap (λ (s : SectorList). length s.items) c.self.view_is, length-all count kept c.self.invariant.within) in
    let is : c.args.sector.now ≡ zero_sector = c.is_zero.ensures c.if-not-is_zero.false in
    rw (← c.self.view_is) (set_zero count kept c.args.n c.args.sector.now past within is)
