-- Steps of readers, and of reading back what was written.
use Rattle.std.proofs.Common.{◌≡◌, ℕ, ◌^◌, ◌<◌, ◌≤◌, cond, List, [], ◌++◌, length, Option, Some, None, sym, ap, subst, ◌∙◌, append_assoc, append-nil, arith, inl, inr, ◌⊎◌, eqb-true}
use Rattle.std.specs.Prelude.{nat_le, nat_eq}
use Rattle.std.specs.List.{flat_map, AllByRecursion as Every}
use Rattle.std.proofs.lemmas.Bool.{cases_Bool, leb-true, le-leb}
use Rattle.std.proofs.lemmas.Option.{same_Some}
use Rattle.byteorder.specs.Endian.{big_bytes}
use Rattle.eventkey.specs.Reading.{IsBytes, ◌>>=◌, Reader, number_at, items_at}
use Rattle.eventkey.proofs.Fields.{IsFormat, IsStep, Takes, Takes-then, bind_some, format1, format4, items_again, items_take, step_of, when_some}
use Rattle.process.proofs.Formats.{again_step}
use Rattle.process.specs.Reports.{counted_bytes}

-- 1. Ends of readers

-- all of the bytes were taken
pub whole : (bytes text rest : List ℕ) → Takes bytes text rest → rest ≡ [] → bytes ≡ text
whole bytes text rest t e = t.parts ∙ ap (λ (r : List ℕ). text ++ r) e ∙ append-nil text

-- the first of some tests that succeeds
pub pick : {X : Type 0} (b k : ℕ) (x f : X) (more : Option X) → cond (nat_eq b k) (Some x) more ≡ Some f → ((b ≡ k) × (x ≡ f)) ⊎ (more ≡ Some f)
pick b k x f more e = elim (cases_Bool (nat_eq b k)) [
  | inl t ↦ (let is : Some x ≡ Some f = rw t at e in inl (eqb-true b k t, same_Some x f is))
  | inr t ↦ (let is : more ≡ Some f = rw t at e in inr is)
]

-- 2. A count, and that number of items

module _ {X Y : Type 0} {Fits : X → Type 0} {write : X → List ℕ} {read : Reader X} (format : IsFormat Fits write read) where
  pub counted_step : (bytes : List ℕ) → IsBytes bytes → (f : List X × List ℕ → Option Y) (y : Y) →
      (number_at 4 bytes >>= λ count. items_at read count.0 count.1 >>= f) ≡ Some y →
      IsStep (λ (xs : List X). (length xs < 2 ^ 32) × Every Fits xs) (counted_bytes 4 write) bytes f y
  counted_step bytes fits f y e =
      let n = step_of format4 bytes fits (λ count. items_at read count.0 count.1 >>= f) y e in
      let b = bind_some (items_at read n.got.0 n.got.1) f y n.rest in
      let t = items_take Fits write read format n.got.0 n.got.1 b.0 n.front.fits b.1 in
      let front = Takes-then bytes (big_bytes 4 n.got.0) n.got.1 (flat_map write b.0.0) b.0.1 n.front t.0 in
      record {
        got = b.0;
        front = subst (λ (k : ℕ). Takes bytes (big_bytes 4 k ++ flat_map write b.0.0) b.0.1) (sym t.1) front;
        is = (subst (λ (k : ℕ). k < 2 ^ 32) (sym t.1) n.is, t.2);
        rest = b.2;
      }

  pub counted_last : (xs : List X) (rest : List ℕ) (f : List X × List ℕ → Option Y) → length xs < 2 ^ 32 → Every Fits xs →
      (number_at 4 (counted_bytes 4 write xs ++ rest) >>= λ count. items_at read count.0 count.1 >>= f) ≡ f (xs, rest)
  counted_last xs rest f few fits =
      again_step format4 (length xs) (flat_map write xs) rest (λ count. items_at read count.0 count.1 >>= f) few
      ∙ ap (λ (o : Option (List X × List ℕ)). o >>= f) (items_again Fits write read format xs rest fits)

  pub counted_again : (xs : List X) (tail rest : List ℕ) (f : List X × List ℕ → Option Y) → length xs < 2 ^ 32 → Every Fits xs →
      (number_at 4 ((counted_bytes 4 write xs ++ tail) ++ rest) >>= λ count. items_at read count.0 count.1 >>= f) ≡ f (xs, tail ++ rest)
  counted_again xs tail rest f few fits =
      ap (λ (b : List ℕ). number_at 4 b >>= λ count. items_at read count.0 count.1 >>= f) (append_assoc (counted_bytes 4 write xs) tail rest)
      ∙ counted_last xs (tail ++ rest) f few fits
