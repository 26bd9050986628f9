-- What a crash of a disk in memory leaves.
use Rattle.std.specs.Prelude.{if◌then◌else◌}
use Rattle.std.proofs.Common.{◌≡◌, ℕ, suc, ◌+◌, ◌*◌, ◌/◌, ◌<◌, ◌≤◌, ◌≢◌, ⊎_elim, Bool, false, List, [], ◌∷◌, ◌++◌, length, get_or, sym, ◌∙◌, ap, subst, arith}
use Rattle.std.proofs.lemmas.List.{get_or_past, get_or_append_left}
use Rattle.std.proofs.Math.Seq.{get_or-append_seam}
use Rattle.std.proofs.lemmas.Bool.{cases_eq, cases_lt}
use Rattle.std.specs.Simd.{first_chunks}
use Rattle.disk.specs.Disk.{image_of, IsSector, MayLeave}
use Rattle.disk.specs.Memory.{MemoryState, crash_content, torn_content, IsCrashed}
use Rattle.disk.specs.declared.memory.Torn.{Torn}
use Rattle.disk.proofs.Sectors.{chunk_push, length-first_chunks}

-- the content with one more sector
pub content_more : (content : ℕ → List ℕ) (n : ℕ) (bytes sector : List ℕ) → length bytes ≡ n * 512 → length sector ≡ 512 → sector ≡ content n
    → ((k : ℕ) → k < n → get_or (first_chunks 512 n bytes) k [] ≡ content k) → (k : ℕ) → k < n + 1 → get_or (first_chunks 512 (n + 1) (bytes ++ sector)) k [] ≡ content k
content_more content n bytes sector size whole is so_far k small =
    let next : n + 1 ≡ suc n = omega arith in
    let before : length (first_chunks 512 n bytes) ≡ n = length-first_chunks n bytes in
    ap (λ m. get_or (first_chunks 512 m (bytes ++ sector)) k []) next
    ∙ ap (λ (l : List (List ℕ)). get_or l k []) (chunk_push n bytes sector size whole)
    ∙ ⊎_elim (λ (same : k ≡ n). ap (λ m. get_or (first_chunks 512 n bytes ++ sector ∷ []) m []) (same ∙ sym before) ∙ get_or-append_seam (first_chunks 512 n bytes) sector [] [] ∙ is ∙ ap content (sym same))
    (λ (other : k ≢ n). get_or_append_left (first_chunks 512 n bytes) (sector ∷ []) [] k (omega (arith, before, other, small)) ∙ so_far k (omega (arith, other, small))) (cases_eq k n)

pub image_crashed : (torn : Torn) (disk : MemoryState) (bytes : List ℕ) → length bytes ≡ length disk.reads * 512
    → ((k : ℕ) → k < length disk.reads → get_or (first_chunks 512 (length disk.reads) bytes) k [] ≡ crash_content torn disk k) → IsCrashed torn disk (image_of bytes)
image_crashed torn disk bytes size content =
    let count : length bytes / 512 ≡ length disk.reads = omega (arith, size) in
    record {
      sectors = length-first_chunks (length bytes / 512) bytes ∙ count;
      content = λ n within. ap (λ m. get_or (first_chunks 512 m bytes) n []) count ∙ content n within;
    }

-- the image that a planned crash leaves is one that a crash may leave
pub crash_may_leave : (torn : Torn) (disk : MemoryState) (image : List (List ℕ)) → length disk.dirty ≡ length disk.reads
    → ((n : ℕ) → n < length disk.reads → IsSector (crash_content torn disk n)) → IsCrashed torn disk image → MayLeave disk.reads disk.dirty image
crash_may_leave torn disk image each whole crashed = record {
  sectors = crashed.sectors;
  in_sync = λ n in_sync. ⊎_elim (λ (within : n < length disk.reads). crashed.content n within ∙ ap (λ (b : Bool). if b then torn_content torn disk n else get_or disk.reads n []) in_sync)
      (λ (past : length disk.reads ≤ n). get_or_past image n [] (omega (arith, past, crashed.sectors)) ∙ sym (get_or_past disk.reads n [] past)) (cases_lt n (length disk.reads));
  torn = λ n dirty. ⊎_elim (λ (within : n < length disk.reads). subst IsSector (sym (crashed.content n within)) (whole n within))
      (λ (past : length disk.reads ≤ n). let none : get_or disk.dirty n false ≡ false = get_or_past disk.dirty n false (omega (arith, past, each)) in cc) (cases_lt n (length disk.reads));
}
