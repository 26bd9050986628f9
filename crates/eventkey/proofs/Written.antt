-- Fields that are written into an array of bytes, one after the other.
use Rattle.std.proofs.Common.{◌≡◌, ℕ, ◌-◌, List, [], ◌∷◌, ◌++◌, length, drop, set, refl, sym, ap, ◌∙◌, append_assoc, append-nil, length-drop, arith}
use Rattle.std.proofs.Math.Seq.{take-append_seam, drop-append_seam, drop-length}
use Rattle.std.proofs.lemmas.List.{take_all, drop_all, nil_from_length}
use borrow.Rule.Slice.PartMut.{put_mid, mid_of}

-- xs begins with the bytes that are written, and k bytes follow
pub record Begins (done : List ℕ) (k : ℕ) (xs : List ℕ) : Type 0 where
  pub rest : List ℕ
  pub joined : xs ≡ done ++ rest
  pub left : length rest ≡ k

-- the first field
pub begins : (k c : ℕ) (xs ys bytes : List ℕ) → ys ≡ bytes ++ drop c xs → length xs ≡ k → Begins bytes (k - c) ys
begins k c xs ys bytes e h = record { rest = drop c xs; joined = e; left = length-drop c xs ∙ ap (λ n. n - c) h }

written_behind : (n k c : ℕ) (xs ys done rest bytes : List ℕ) → xs ≡ done ++ rest → k ≡ length rest → n ≡ length done → ys ≡ bytes ++ drop c (mid_of n k xs)
    → put_mid n k xs ys ≡ (done ++ bytes) ++ drop c rest
written_behind n k c xs ys done rest bytes e q p f =
    let middle : mid_of n k xs ≡ rest = rw (e, p, drop-append_seam done rest) (take_all k rest (omega arith)) in
    let new : ys ≡ bytes ++ drop c rest = f ∙ ap (λ (zs : List ℕ). bytes ++ drop c zs) middle in
    rw (new, e, p, q, take-append_seam done rest, drop-append_seam done rest, drop-length rest) (simp (append_assoc, append-nil))

-- each further field is written after those before it
pub put_field : (n k c : ℕ) (xs ys done bytes : List ℕ) → Begins done k xs → n ≡ length done → ys ≡ bytes ++ drop c (mid_of n k xs)
    → Begins (done ++ bytes) (k - c) (put_mid n k xs ys)
put_field n k c xs ys done bytes b p f = record {
  rest = drop c b.rest;
  joined = written_behind n k c xs ys done b.rest bytes b.joined (sym b.left) p f;
  left = length-drop c b.rest ∙ ap (λ n. n - c) b.left;
}

-- nothing follows
pub all_written : (done xs : List ℕ) → Begins done 0 xs → xs ≡ done
all_written done xs b = b.joined ∙ rw (nil_from_length b.rest b.left) (append-nil done)

-- a sign and a message
pub first_and_rest_written : (out ys : List ℕ) (b : ℕ) → length out ≡ 57 → put_mid 1 56 (set out 0 b) ys ≡ b ∷ ys
first_and_rest_written [] ys b h = absurd (omega (arith, h))
first_and_rest_written (x ∷ xs) ys b h = rw (drop_all 56 xs (omega (arith, h)), append-nil ys) refl
