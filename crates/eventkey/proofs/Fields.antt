-- A field that is read is what was written, and what was written is read back.
use Rattle.std.proofs.Common.{◌≡◌, ℕ, zero, suc, ◌+◌, ◌^◌, ◌<◌, ◌≤◌, Bool, true, false, cond, ltb, List, [], ◌∷◌, ◌++◌, length, take, drop, Option, Some, None, refl, sym, ap, subst, ◌∙◌, append_assoc, arith, inl, inr}
use Rattle.std.specs.List.{flat_map, AllByRecursion as Every}
use Rattle.std.specs.Int.{w32, w64, from_be_bytes}
use Rattle.std.proofs.lemmas.Bool.{cases_lt, lt-ltb, le-ltb}
use Rattle.std.proofs.lemmas.Option.{same_Some, none-some}
use Rattle.std.proofs.lemmas.List.{drop_at, take-append-drop, length-append, length-take, get_or-drop, get_or-take, get_or_past}
use Rattle.std.proofs.lemmas.Nat.{be_bytes_4, be_bytes_8}
use Rattle.byteorder.specs.Endian.{big_number, big_bytes}
use Rattle.byteorder.specs.Numbers.{length-bytes_high_first, big_number-reads_back, big_from-take, big_from-lt}
use Rattle.eventkey.specs.Reading.{IsBytes, ◌>>=◌, Reader, number_at, items_at}

-- 1. Steps of a reader

pub IsBytes-drop : (n : ℕ) (bytes : List ℕ) → IsBytes bytes → IsBytes (drop n bytes)
IsBytes-drop n bytes h i = rw get_or-drop (h (n + i))

pub IsBytes-take : (n : ℕ) (bytes : List ℕ) → IsBytes bytes → IsBytes (take n bytes)
IsBytes-take n bytes h i =
    elim (cases_lt i n) [
      | inl lt ↦ rw (get_or-take n bytes i 0 lt) (h i)
      | inr le ↦ rw (get_or_past (take n bytes) i 0 (omega (arith, length-take n bytes))) (omega arith)
    ]

pub bind_some : {A B : Type 0} (r : Option A) (f : A → Option B) (y : B) → (r >>= f) ≡ Some y → (x : A) × (r ≡ Some x) × (f x ≡ Some y)
bind_some (Some x) f y e = (x, refl, e)
bind_some None f y e = absurd (none-some y e)

-- a test that was passed
pub when_some : {A : Type 0} (b : Bool) (o : Option A) (y : A) → cond b o None ≡ Some y → (b ≡ true) × (o ≡ Some y)
when_some true o y e = (refl, e)
when_some false o y e = absurd (none-some y e)

-- the reader took the text from the front and left the rest
pub record Takes (bytes text rest : List ℕ) : Type 0 where
  pub parts : bytes ≡ text ++ rest
  pub fits : IsBytes rest

pub Takes-then : (a x b y c : List ℕ) → Takes a x b → Takes b y c → Takes a (x ++ y) c
Takes-then a x b y c p q = record { parts = p.parts ∙ ap (λ (t : List ℕ). x ++ t) q.parts ∙ sym (append_assoc x y c); fits = q.fits }

-- reading and writing are inverse to each other, for the values that fit
pub record IsFormat {X : Type 0} (Fits : X → Type 0) (write : X → List ℕ) (read : Reader X) : Type 0 where
  pub takes : (bytes : List ℕ) (x : X × List ℕ) → IsBytes bytes → read bytes ≡ Some x → Takes bytes (write x.0) x.1 × Fits x.0
  pub again : (x : X) (rest : List ℕ) → Fits x → read (write x ++ rest) ≡ Some (x, rest)

-- a reader that begins with another one
pub record IsStep {X Y : Type 0} (Fits : X → Type 0) (write : X → List ℕ) (bytes : List ℕ) (f : X × List ℕ → Option Y) (y : Y) : Type 0 where
  pub got : X × List ℕ
  pub front : Takes bytes (write got.0) got.1
  pub is : Fits got.0
  pub rest : f got ≡ Some y

pub step_of : {X Y : Type 0} {Fits : X → Type 0} {write : X → List ℕ} {read : Reader X} → IsFormat Fits write read → (bytes : List ℕ) → IsBytes bytes → (f : X × List ℕ → Option Y) (y : Y) →
    (read bytes >>= f) ≡ Some y → IsStep Fits write bytes f y
step_of {read = read} format bytes fits f y e =
    let b = bind_some (read bytes) f y e in
    let t = format.takes bytes b.0 fits b.1 in
    record { got = b.0; front = t.0; is = t.1; rest = b.2 }

-- 2. Numbers

pub record IsWide (n limit : ℕ) : Type 0 where
  pub back : (bytes : List ℕ) → n ≤ length bytes → IsBytes bytes → big_bytes n (big_number n bytes) ≡ take n bytes
  pub limit_is : 256 ^ n ≡ limit

pub wide1 : IsWide 1 256
wide1 = record { back = back; limit_is = refl }
  where
    back : (bytes : List ℕ) → 1 ≤ length bytes → IsBytes bytes → big_bytes 1 (big_number 1 bytes) ≡ take 1 bytes
    back [] long fits = absurd (omega arith)
    back (b ∷ bytes) long fits =
        let small : b < 256 = fits 0 in
        ap (λ (k : ℕ). k ∷ []) (omega arith)

pub wide4 : IsWide 4 (2 ^ 32)
wide4 = record {
  back = λ bytes long fits. be_bytes_4 (take 4 bytes) (big_number 4 bytes) (omega (arith, length-take 4 bytes)) (IsBytes-take 4 bytes fits)
      (sym (big_from-take 0 4 4 bytes (omega arith)) ∙ same (take 4 bytes));
  limit_is = refl;
}
  where
    same : (xs : List ℕ) → big_number 4 xs ≡ from_be_bytes w32 xs
    same xs = omega arith

pub wide8 : IsWide 8 (2 ^ 64)
wide8 = record {
  back = λ bytes long fits. be_bytes_8 (take 8 bytes) (big_number 8 bytes) (omega (arith, length-take 8 bytes)) (IsBytes-take 8 bytes fits)
      (sym (big_from-take 0 8 8 bytes (omega arith)) ∙ same (take 8 bytes));
  limit_is = refl;
}
  where
    same : (xs : List ℕ) → big_number 8 xs ≡ from_be_bytes w64 xs
    same xs = omega arith

module _ (n limit : ℕ) (wide : IsWide n limit) where
  number_takes : (bytes : List ℕ) (x : ℕ × List ℕ) → IsBytes bytes → number_at n bytes ≡ Some x → Takes bytes (big_bytes n x.0) x.1 × (x.0 < limit)
  unfolding number_at
  number_takes bytes x fits e = elim (cases_lt (length bytes) n) [
    | inl short ↦ absurd (let none : None ≡ Some x = rw (lt-ltb (length bytes) n short) at e in none-some x none)
    | inr long ↦
        let is : Some (big_number n bytes, drop n bytes) ≡ Some x = rw (le-ltb (length bytes) n long) at e in
        subst (λ (y : ℕ × List ℕ). Takes bytes (big_bytes n y.0) y.1 × (y.0 < limit)) (same_Some (big_number n bytes, drop n bytes) x is) (
          record { parts = rw (wide.back bytes long fits) (sym (take-append-drop n bytes)); fits = IsBytes-drop n bytes fits },
          subst (λ k. big_number n bytes < k) wide.limit_is (big_from-lt 0 n bytes fits),
        )
  ]

  number_again : (x : ℕ) (rest : List ℕ) → x < limit → number_at n (big_bytes n x ++ rest) ≡ Some (x, rest)
  unfolding number_at
  number_again x rest lt =
      let long : ltb (length (big_bytes n x ++ rest)) n ≡ false = le-ltb _ _ (omega (arith, length-append (big_bytes n x) rest, length-bytes_high_first n x)) in
      rw (long, big_number-reads_back n x rest (subst (λ k. x < k) (sym wide.limit_is) lt), drop_at (big_bytes n x) rest n (length-bytes_high_first n x)) refl

  pub number_format : IsFormat (λ x. x < limit) (big_bytes n) (number_at n)
  number_format = record { takes = number_takes; again = number_again }

pub format1 : IsFormat (λ x. x < 256) (big_bytes 1) (number_at 1)
format1 = number_format 1 256 wide1

pub format4 : IsFormat (λ x. x < 2 ^ 32) (big_bytes 4) (number_at 4)
format4 = number_format 4 (2 ^ 32) wide4

pub format8 : IsFormat (λ x. x < 2 ^ 64) (big_bytes 8) (number_at 8)
format8 = number_format 8 (2 ^ 64) wide8

-- 3. Many of them

module _ {X : Type 0} (Fits : X → Type 0) (write : X → List ℕ) (read : Reader X) (format : IsFormat Fits write read) where
  pub items_take : (n : ℕ) (bytes : List ℕ) (x : List X × List ℕ) → IsBytes bytes → items_at read n bytes ≡ Some x → Takes bytes (flat_map write x.0) x.1 × (length x.0 ≡ n) × Every Fits x.0
  unfolding items_at
  items_take zero bytes x fits e =
      subst (λ (y : List X × List ℕ). Takes bytes (flat_map write y.0) y.1 × (length y.0 ≡ 0) × Every Fits y.0) (same_Some ([], bytes) x e) (record { parts = refl; fits = fits }, refl, tt)
  items_take (suc n) bytes x fits e =
      let a = step_of format bytes fits (λ first. items_at read n first.1 >>= λ others. Some (first.0 ∷ others.0, others.1)) x e in
      let b = bind_some (items_at read n a.got.1) (λ others. Some (a.got.0 ∷ others.0, others.1)) x a.rest in
      let others = items_take n a.got.1 b.0 a.front.fits b.1 in
      let both = Takes-then bytes (write a.got.0) a.got.1 (flat_map write b.0.0) b.0.1 a.front others.0 in
      subst (λ (y : List X × List ℕ). Takes bytes (flat_map write y.0) y.1 × (length y.0 ≡ suc n) × Every Fits y.0) (same_Some (a.got.0 ∷ b.0.0, b.0.1) x b.2)
      (both, ap suc others.1, (a.is, others.2))

  pub items_again : (xs : List X) (rest : List ℕ) → Every Fits xs → items_at read (length xs) (flat_map write xs ++ rest) ≡ Some (xs, rest)
  unfolding items_at
  items_again [] rest fits = refl
  items_again (x ∷ xs) rest fits =
      ap (items_at read (suc (length xs))) (append_assoc (write x) (flat_map write xs) rest)
      ∙ rw (format.again x (flat_map write xs ++ rest) fits.0, items_again xs rest fits.1) refl
