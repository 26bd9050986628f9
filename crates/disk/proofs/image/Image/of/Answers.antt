use Rattle.std.proofs.Common.{List, ℕ, ◌/◌, subst, sym, get_or, length, [], arith}
use Rattle.disk.specs.Disk.{IsSector}
use Rattle.disk.proofs.Sectors.{chunk_whole}
use Rattle.disk.proofs.image.Image.of.Goals as goal

pub of_sectors-requires-clause-whole : goal.of_sectors-requires-clause-whole
of_sectors-requires-clause-whole c n within =
    let bytes = c.args.bytes.now in
    subst (λ (sectors : List (List ℕ)). IsSector (get_or sectors n [])) (sym c.as_chunks.ensures.front)
    (chunk_whole (length bytes / 512) bytes (omega arith) (λ i. let fits = c.type_inv.bytes i in omega arith) n (omega (arith, within, c.as_chunks.ensures.front_len)))
