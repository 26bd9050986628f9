-- Bytes as sectors.
use Rattle.std.specs.Prelude.{replicate}
use Rattle.std.proofs.Common.{◌≡◌, ℕ, zero, suc, ◌+◌, ◌*◌, ◌<◌, ◌≤◌, ⊎_elim, List, [], ◌∷◌, ◌++◌, length, get_or, take, drop, refl, ◌∙◌, ap, subst, sym, arith}
use Rattle.std.proofs.lemmas.List.{get_or_past, get_or-take, get_or-drop, take_all, take-append-le, drop-append-le, length-drop, length-take-le, get_or-replicate}
use Rattle.std.specs.Simd.{first_chunks}
use Rattle.std.proofs.lemmas.Bool.{cases_lt}
use Rattle.disk.specs.Disk.{IsSector}

-- appending one more chunk
pub chunk_push : (n : ℕ) (bytes chunk : List ℕ) → length bytes ≡ n * 512 → length chunk ≡ 512 → first_chunks 512 (suc n) (bytes ++ chunk) ≡ first_chunks 512 n bytes ++ chunk ∷ []
chunk_push zero [] chunk size whole = ap (λ (l : List ℕ). l ∷ []) (take_all 512 chunk (omega arith))
chunk_push zero (b ∷ bytes) chunk size whole = absurd (omega arith)
chunk_push (suc n) bytes chunk size whole =
    ap (λ (l : List ℕ). l ∷ first_chunks 512 (suc n) (drop 512 (bytes ++ chunk))) (take-append-le 512 bytes chunk (omega arith))
    ∙ ap (λ (l : List (List ℕ)). take 512 bytes ∷ l) (ap (λ (l : List ℕ). first_chunks 512 (suc n) l) (drop-append-le 512 bytes chunk (omega arith)) ∙ chunk_push n (drop 512 bytes) chunk (omega (arith, length-drop 512 bytes)) whole)

-- the chunks of 512 bytes are sectors
pub chunk_whole : (n : ℕ) (bytes : List ℕ) → n * 512 ≤ length bytes → ((i : ℕ) → get_or bytes i 0 < 256) → (k : ℕ) → k < n → IsSector (get_or (first_chunks 512 n bytes) k [])
chunk_whole zero bytes size fits k small = absurd (omega arith)
chunk_whole (suc n) bytes size fits zero small = record { size = length-take-le 512 bytes (omega arith); bytes = λ i. below i }
  where
    below : (i : ℕ) → get_or (take 512 bytes) i 0 < 256
    below i = ⊎_elim (λ (in_it : i < 512). rw (get_or-take 512 bytes i 0 in_it) (fits i)) (λ (past : 512 ≤ i). rw (get_or_past (take 512 bytes) i 0 (omega (arith, length-take-le 512 bytes (omega arith)))) (omega arith)) (cases_lt i 512)
chunk_whole (suc n) bytes size fits (suc k) small = chunk_whole n (drop 512 bytes) (omega (arith, length-drop 512 bytes)) (λ i. rw (get_or-drop 512 bytes i 0) (fits (512 + i))) k (omega arith)

pub length-first_chunks : (n : ℕ) (xs : List ℕ) → length (first_chunks 512 n xs) ≡ n
length-first_chunks zero xs = refl
length-first_chunks (suc n) xs = ap suc (length-first_chunks n (drop 512 xs))

-- 512 times the same byte are a sector
pub replicate_whole : (byte : ℕ) → byte < 256 → IsSector (replicate 512 byte)
replicate_whole byte fits = record { size = refl; bytes = λ i. ⊎_elim (λ (in_it : i < 512). rw (get_or-replicate 512 i byte 0 in_it) fits) (λ (past : 512 ≤ i). rw (get_or_past (replicate 512 byte) i 0 past) (omega arith)) (cases_lt i 512) }

-- zeros are sectors
pub zeros_whole : (count : ℕ) (n : ℕ) → n < count → IsSector (get_or (replicate count (replicate 512 0)) n [])
zeros_whole count n within = subst IsSector (sym (get_or-replicate count n (replicate 512 0) [] within)) (replicate_whole 0 (omega arith))
