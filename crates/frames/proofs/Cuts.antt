-- What is first in a stream, as its bytes arrive.
use Rattle.std.proofs.Common.{◌≡◌, ℕ, ◌+◌, ◌-◌, ◌<◌, ◌≤◌, ◌^◌, List, [], ◌∷◌, ◌++◌, length, take, drop, Option, Some, None, Result, Ok, inl, inr, refl, sym, ap, subst, ◌∙◌, arith, append-nil, append_assoc, take-append-drop}
use Rattle.std.proofs.lemmas.Bool.{cases_lt, lt-ltb, le-ltb}
use Rattle.std.proofs.lemmas.List.{drop_at, take_at, length-append}
use Rattle.std.specs.Io.KnownBytes.{Consumes, IsAtEnd}
use Rattle.std.proofs.KnownBytes.{Consumes-trans}
use lib.Seq.{drop-append-add}
use Rattle.byteorder.specs.Endian.{big_number}
use Rattle.byteorder.specs.Numbers.{big_from-take}
use Rattle.eventkey.specs.Reading.{number_at}
use Rattle.frames.specs.Bodies.{kind_of}
use Rattle.frames.specs.Cutting.{Cut, cut, cut_body, cut_kind, cut_length, fails}
use Rattle.frames.specs.Streams.{Finds, GivesUpTo, IsCutBy, IsFront, IsWithin, OnBytes}
use Rattle.frames.specs.declared.FrameKind.{FrameKind}
use Rattle.frames.specs.declared.stream.Raw.{Raw}
use Rattle.wire.specs.declared.port.WireFault.{WireFault}
use Rattle.wire.specs.declared.port.WireFault.TheVariants.{BadKind, TooLong, Truncated}

-- 1. What a reader gave

pub on_bytes : (old new : Option (List ℕ)) (taken : List ℕ) (P : List ℕ → List ℕ → Type 0) → Consumes old new taken → ((rest : List ℕ) → P (taken ++ rest) rest) → OnBytes old new P
on_bytes None new taken P h each = tt
on_bytes (Some bytes) None taken P h each = absurd h
on_bytes (Some bytes) (Some rest) taken P h each = subst (λ (b : List ℕ). P b rest) (sym h) (each rest)

pub on_end : (old new : Option (List ℕ)) (taken : List ℕ) (P : List ℕ → List ℕ → Type 0) → Consumes old new taken → IsAtEnd new → P taken [] → OnBytes old new P
on_end None new taken P h e p = tt
on_end (Some bytes) None taken P h e p = absurd h
on_end (Some bytes) (Some rest) taken P h e p =
    subst (λ (r : List ℕ). P bytes r) (sym e) (subst (λ (b : List ℕ). P b []) (sym (h ∙ ap (λ r. taken ++ r) e ∙ append-nil taken)) p)

-- 2. What is first

pub cut_none : cut [] ≡ record { found = Ok None; rest = [] }
unfolding cut
cut_none = refl

cut_is : (bytes : List ℕ) → 0 < length bytes → cut bytes ≡ cut_length (number_at 4 bytes)
unfolding cut
cut_is [] some = absurd (omega arith)
cut_is (b ∷ bytes) some = refl

-- fewer bytes than a length
pub cut_short : (taken : List ℕ) → 0 < length taken → length taken < 4 → cut taken ≡ fails Truncated []
unfolding number_at
cut_short taken some few = cut_is taken some ∙ rw (lt-ltb (length taken) 4 few) refl

cut_head : (head rest : List ℕ) → length head ≡ 4 → cut (head ++ rest) ≡ cut_length (Some (big_number 4 head, rest))
unfolding number_at
cut_head head rest four =
    let long : 4 ≤ length (head ++ rest) = omega (arith, length-append head rest) in
    let number : big_number 4 (head ++ rest) ≡ big_number 4 head =
    sym (big_from-take 0 4 4 (head ++ rest) (omega arith)) ∙ ap (big_number 4) (take_at head rest 4 four) in
    cut_is (head ++ rest) (omega arith) ∙ rw (le-ltb (length (head ++ rest)) 4 long, number, drop_at head rest 4 four) refl

pub cut_long : (head rest : List ℕ) → length head ≡ 4 → 2 ^ 24 < big_number 4 head → cut (head ++ rest) ≡ fails TooLong rest
cut_long head rest four long = cut_head head rest four ∙ rw (lt-ltb (2 ^ 24) (big_number 4 head) long) refl

cut_fits : (head rest : List ℕ) → length head ≡ 4 → big_number 4 head ≤ 2 ^ 24 → cut (head ++ rest) ≡ cut_kind (big_number 4 head) rest
cut_fits head rest four fits = cut_head head rest four ∙ rw (le-ltb (2 ^ 24) (big_number 4 head) fits) refl

-- a length and nothing more
pub cut_no_kind : (head : List ℕ) → length head ≡ 4 → big_number 4 head ≤ 2 ^ 24 → cut head ≡ fails Truncated []
cut_no_kind head four fits = ap cut (sym (append-nil head)) ∙ cut_fits head [] four fits

pub cut_bad_kind : (head : List ℕ) (k : ℕ) (rest : List ℕ) → length head ≡ 4 → big_number 4 head ≤ 2 ^ 24 → kind_of k ≡ None → cut (head ++ k ∷ rest) ≡ fails BadKind rest
cut_bad_kind head k rest four fits e = cut_fits head (k ∷ rest) four fits ∙ ap (cut_body (big_number 4 head) rest) e

pub cut_no_body : (head : List ℕ) (k : ℕ) (kind : FrameKind) (body : List ℕ) → length head ≡ 4 → big_number 4 head ≤ 2 ^ 24 → kind_of k ≡ Some kind → length body < big_number 4 head →
    cut (head ++ k ∷ body) ≡ fails Truncated []
cut_no_body head k kind body four fits e few =
    cut_fits head (k ∷ body) four fits ∙ ap (cut_body (big_number 4 head) body) e ∙ rw (lt-ltb (length body) (big_number 4 head) few) refl

pub cut_whole : (head : List ℕ) (k : ℕ) (kind : FrameKind) (body rest : List ℕ) → length head ≡ 4 → big_number 4 head ≤ 2 ^ 24 → kind_of k ≡ Some kind → length body ≡ big_number 4 head →
    cut (head ++ k ∷ (body ++ rest)) ≡ record { found = Ok (Some (record { kind = kind; body = body })); rest = rest }
cut_whole head k kind body rest four fits e whole =
    let long : big_number 4 head ≤ length (body ++ rest) = omega (arith, length-append body rest) in
    cut_fits head (k ∷ (body ++ rest)) four fits ∙ ap (cut_body (big_number 4 head) (body ++ rest)) e
    ∙ rw (le-ltb (length (body ++ rest)) (big_number 4 head) long, take_at body rest (big_number 4 head) whole, drop_at body rest (big_number 4 head) whole) refl

-- 3. What is left is a suffix of what was there.

IsFront-all : (bytes : List ℕ) → IsFront bytes []
IsFront-all bytes = (bytes, sym (append-nil bytes))

IsFront-drop : (n : ℕ) (bytes : List ℕ) → IsFront bytes (drop n bytes)
IsFront-drop n bytes = (take n bytes, sym (take-append-drop n bytes))

pub IsFront-trans : (a b c : List ℕ) → IsFront a b → IsFront b c → IsFront a c
IsFront-trans a b c (x, p) (y, q) = (x ++ y, p ∙ ap (λ t. x ++ t) q ∙ sym (append_assoc x y c))

front_body : (n : ℕ) (bytes : List ℕ) (kind : Option FrameKind) → IsFront bytes (cut_body n bytes kind).rest
front_body n bytes None = ([], refl)
front_body n bytes (Some kind) = elim (cases_lt (length bytes) n) [
  | inl lt ↦ rw (lt-ltb (length bytes) n lt) (IsFront-all bytes)
  | inr le ↦ rw (le-ltb (length bytes) n le) (IsFront-drop n bytes)
]

front_kind : (n : ℕ) (bytes : List ℕ) → IsFront bytes (cut_kind n bytes).rest
front_kind n [] = ([], refl)
front_kind n (k ∷ bytes) = IsFront-trans (k ∷ bytes) bytes (cut_body n bytes (kind_of k)).rest (k ∷ [], refl) (front_body n bytes (kind_of k))

front_number : (n : ℕ) (bytes : List ℕ) → IsFront bytes (cut_length (Some (n, bytes))).rest
front_number n bytes = elim (cases_lt (2 ^ 24) n) [
  | inl lt ↦ rw (lt-ltb (2 ^ 24) n lt) ([], refl)
  | inr le ↦ rw (le-ltb (2 ^ 24) n le) (front_kind n bytes)
]

behind_length : (bytes : List ℕ) → IsFront (drop 4 bytes) (cut_length (number_at 4 bytes)).rest
unfolding number_at
behind_length bytes = elim (cases_lt (length bytes) 4) [
  | inl lt ↦ rw (lt-ltb (length bytes) 4 lt) (IsFront-all (drop 4 bytes))
  | inr le ↦ rw (le-ltb (length bytes) 4 le) (front_number (big_number 4 bytes) (drop 4 bytes))
]

-- a frame has at least four bytes, or the input ends within them
cut_behind : (bytes : List ℕ) → IsFront (drop 4 bytes) (cut bytes).rest
unfolding cut
cut_behind [] = ([], refl)
cut_behind (b ∷ bytes) = behind_length (b ∷ bytes)

cut_front : (bytes : List ℕ) → IsFront bytes (cut bytes).rest
cut_front bytes = IsFront-trans bytes (drop 4 bytes) (cut bytes).rest (IsFront-drop 4 bytes) (cut_behind bytes)

-- the frame that was cut off
pub within_of : (bytes rest : List ℕ) (found : Result (Option Raw) WireFault) → Finds (cut bytes) found rest → IsWithin bytes rest
within_of bytes rest found e =
    let left : (cut bytes).rest ≡ rest = ap (λ (c : Cut Raw). c.rest) e in
    record { front = subst (IsFront bytes) left (cut_front bytes); behind = ([], sym left) }

pub within_found : (old new : Option (List ℕ)) (found : Option Raw) → OnBytes old new (IsCutBy cut (Ok found)) → OnBytes old new IsWithin
within_found None new found h = tt
within_found (Some bytes) None found h = absurd h
within_found (Some bytes) (Some rest) found h = within_of bytes rest (Ok found) h

-- 4. A reader that stops part of the way has read nothing after the frame.

-- taking fewer bytes leaves more
drop_fewer : (n : ℕ) (taken rest : List ℕ) → length taken ≤ n → IsFront rest (drop n (taken ++ rest))
drop_fewer n taken rest few =
    let more : n ≡ length taken + (n - length taken) = omega arith in
    let left : drop n (taken ++ rest) ≡ drop (n - length taken) rest = ap (λ k. drop k (taken ++ rest)) more ∙ drop-append-add taken rest (n - length taken) in
    subst (IsFront rest) (sym left) (IsFront-drop (n - length taken) rest)

within_head : (taken rest : List ℕ) → length taken ≤ 4 → IsWithin (taken ++ rest) rest
within_head taken rest few = record {
  front = (taken, refl);
  behind = IsFront-trans rest (drop 4 (taken ++ rest)) (cut (taken ++ rest)).rest (drop_fewer 4 taken rest few) (cut_behind (taken ++ rest));
}

-- here the length has been read, and is not too long
behind_kind : (n : ℕ) (taken rest : List ℕ) → length taken ≤ 1 → IsFront rest (cut_kind n (taken ++ rest)).rest
behind_kind n [] rest few = front_kind n rest
behind_kind n (k ∷ []) rest few = front_body n rest (kind_of k)
behind_kind n (k ∷ (j ∷ more)) rest few = absurd (omega arith)

within_kind : (head taken rest : List ℕ) → length head ≡ 4 → big_number 4 head ≤ 2 ^ 24 → length taken ≤ 1 → IsWithin ((head ++ taken) ++ rest) rest
within_kind head taken rest four fits few =
    let is : cut ((head ++ taken) ++ rest) ≡ cut_kind (big_number 4 head) (taken ++ rest) = ap cut (append_assoc head taken rest) ∙ cut_fits head (taken ++ rest) four fits in
    record {
      front = (head ++ taken, refl);
      behind = subst (IsFront rest) (sym (ap (λ (c : Cut Raw). c.rest) is)) (behind_kind (big_number 4 head) taken rest few);
    }

behind_body : (n : ℕ) (kind : FrameKind) (taken rest : List ℕ) → length taken ≤ n → IsFront rest (cut_body n (taken ++ rest) (Some kind)).rest
behind_body n kind taken rest few = elim (cases_lt (length (taken ++ rest)) n) [
  | inl lt ↦ rw (lt-ltb (length (taken ++ rest)) n lt) (IsFront-all rest)
  | inr le ↦ rw (le-ltb (length (taken ++ rest)) n le) (drop_fewer n taken rest few)
]

within_body : (head : List ℕ) (k : ℕ) (kind : FrameKind) (taken rest : List ℕ) → length head ≡ 4 → big_number 4 head ≤ 2 ^ 24 → kind_of k ≡ Some kind → length taken ≤ big_number 4 head →
    IsWithin (((head ++ k ∷ []) ++ taken) ++ rest) rest
within_body head k kind taken rest four fits e few =
    let n = big_number 4 head in
    let parts : ((head ++ k ∷ []) ++ taken) ++ rest ≡ head ++ k ∷ (taken ++ rest) = append_assoc (head ++ k ∷ []) taken rest ∙ append_assoc head (k ∷ []) (taken ++ rest) in
    let is : cut (((head ++ k ∷ []) ++ taken) ++ rest) ≡ cut_body n (taken ++ rest) (Some kind) =
    ap cut parts ∙ cut_fits head (k ∷ (taken ++ rest)) four fits ∙ ap (cut_body n (taken ++ rest)) e in
    record {
      front = ((head ++ k ∷ []) ++ taken, refl);
      behind = subst (IsFront rest) (sym (ap (λ (c : Cut Raw). c.rest) is)) (behind_body n kind taken rest few);
    }

-- the same for a reader
pub stops_in_head : (old new : Option (List ℕ)) → GivesUpTo 4 old new → OnBytes old new IsWithin
stops_in_head old new (taken, few, h) = on_bytes old new taken IsWithin h (λ rest. within_head taken rest few)

module _ (old mid new : Option (List ℕ)) (head : List ℕ) where
  pub stops_at_kind : length head ≡ 4 → big_number 4 head ≤ 2 ^ 24 → Consumes old mid head → GivesUpTo 1 mid new → OnBytes old new IsWithin
  stops_at_kind four fits h (taken, few, more) =
      on_bytes old new (head ++ taken) IsWithin (Consumes-trans old mid new head taken h more) (λ rest. within_kind head taken rest four fits few)

  pub stops_in_body : (k : ℕ) (kind : FrameKind) → length head ≡ 4 → big_number 4 head ≤ 2 ^ 24 → kind_of k ≡ Some kind → Consumes old mid (head ++ k ∷ []) → GivesUpTo (big_number 4 head) mid new →
      OnBytes old new IsWithin
  stops_in_body k kind four fits e h (taken, few, more) =
      on_bytes old new ((head ++ k ∷ []) ++ taken) IsWithin (Consumes-trans old mid new (head ++ k ∷ []) taken h more) (λ rest. within_body head k kind taken rest four fits e few)
