use Rattle.std.proofs.Common.{◌-◌, ◌<◌, ℕ, List, [], get_or, length, subst, sym}
use Rattle.disk.specs.Disk.{IsSector}
use Rattle.disk.proofs.Growths.{all_whole}
use Rattle.disk.proofs.image.Image.grown.Goals as goal

pub in_sync-requires-clause-whole : goal.in_sync-requires-clause-whole
in_sync-requires-clause-whole c =
    let reads : List (List ℕ) = c.args.self.now.sectors.items in
    subst (λ (sectors : List (List ℕ)). (n : ℕ) → n < length sectors → IsSector (get_or sectors n []))
    (sym c.in_ok-grown.ensures.items)
    (all_whole reads (c.args.count - length reads) c.args.self.now.whole)
