use Rattle.std.proofs.Common.{List, ℕ, ◌<◌, [], get_or, length, subst, sym, arith}
use Rattle.std.specs.Prelude.{replicate}
use Rattle.std.proofs.lemmas.List.{length-replicate}
use Rattle.disk.specs.Disk.{IsSector}
use Rattle.disk.proofs.Sectors.{zeros_whole}
use Rattle.disk.proofs.image.Image.blank.Goals as goal

pub in_sync-requires-clause-whole : goal.in_sync-requires-clause-whole
in_sync-requires-clause-whole c =
    let P : List (List ℕ) → Type 0 = λ sectors. (n : ℕ) → n < length sectors → IsSector (get_or sectors n []) in
    subst P (sym c.in_ok-blank.ensures.items) (λ n within. zeros_whole c.args.count n (omega (arith, within, length-replicate c.args.count (replicate {A = ℕ} 512 0))))
