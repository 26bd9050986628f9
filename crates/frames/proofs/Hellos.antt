-- Hellos: each has one encoding, and what is first in a stream as its bytes arrive.
use Rattle.std.proofs.Common.{◌≡◌, ℕ, ◌^◌, ◌<◌, ◌≤◌, Bool, true, false, cond, List, [], ◌∷◌, ◌++◌, length, take, drop, slice_index, Option, Some, None, Result, Ok, Err, inl, inr, refl, sym, ap, subst, ◌∙◌, arith, append-nil, append_assoc, eqb-true, take-append-drop}
use Rattle.std.specs.Prelude.{nat_le, nat_lt, nat_eq, ◌&&◌}
use Rattle.std.specs.Result.{IsErrAnd}
use Rattle.std.proofs.lemmas.Bool.{and_from, and_parts, cases_Bool, cases_lt, eq-eqb, leb-true, le-leb, le-ltb, lt-ltb}
use Rattle.std.proofs.lemmas.List.{drop_at, length-append, length-drop, length-take, nil_from_length, take_all, take_at}
use Rattle.std.proofs.lemmas.Option.{cond_some}
use Rattle.std.specs.Io.KnownBytes.{Consumes, IsAtEnd}
use Rattle.byteorder.specs.Endian.{big_bytes, big_number}
use Rattle.byteorder.specs.Numbers.{big_from-take, big_number-reads_back, length-bytes_high_first}
use Rattle.eventkey.specs.Reading.{IsBytes, ◌>>=◌, number_at}
use Rattle.eventkey.proofs.Fields.{IsBytes-drop, IsBytes-take, Takes-then, format4, format8, step_of}
use Rattle.model.specs.Encoding.{words_at, words_bytes}
use Rattle.model.proofs.Encoding.{length-words, words_format}
use Rattle.frames.specs.Greeted.{IsBodyRead, IsFirst}
use Rattle.frames.specs.HelloLaws.{HellosAreCanonical, HellosAreReadBack, IsHelloOf}
use Rattle.frames.specs.Hellos.{IsHello, hello_at, hello_behind, hello_body, hello_bytes, hello_frame, hello_in, hello_kind, hello_length, opened_hello}
use Rattle.frames.specs.Streams.{Finds, OnBytes}
use Rattle.frames.specs.declared.first_frame.First.{First}
use Rattle.frames.specs.declared.first_frame.First.TheVariants as first
use Rattle.frames.specs.declared.greeting.Hello.{Hello}
use Rattle.frames.specs.Cutting.{Cut}
use Rattle.frames.proofs.Cuts.{on_bytes, on_end}
use Rattle.process.proofs.Formats.{again_last, again_step}
use Rattle.frames.proofs.Formats.{whole}
use Rattle.wire.specs.declared.port.WireFault.{WireFault}
use Rattle.wire.specs.declared.port.WireFault.TheVariants as wire

-- 1. The body

behind : (v w z x y : List ℕ) → w ≡ v ++ x → z ≡ w ++ y → z ≡ v ++ (x ++ y)
behind v w z x y e f = f ∙ ap (λ (l : List ℕ). l ++ y) e ∙ append_assoc v x y

pub hello_joined : (v0 v1 v2 v3 v4 : List ℕ) (h : Hello) → v1 ≡ v0 ++ big_bytes 4 h.format → v2 ≡ v1 ++ big_bytes 4 h.lps → v3 ≡ v2 ++ big_bytes 8 h.end → v4 ≡ v3 ++ words_bytes h.identity → v4 ≡ v0 ++ hello_bytes h
unfolding hello_bytes
hello_joined v0 v1 v2 v3 v4 h e1 e2 e3 e4 =
    let words = words_bytes h.identity in
    behind v0 v1 v4 (big_bytes 4 h.format) (big_bytes 4 h.lps ++ (big_bytes 8 h.end ++ words)) e1
    (behind v1 v2 v4 (big_bytes 4 h.lps) (big_bytes 8 h.end ++ words) e2 (behind v2 v3 v4 (big_bytes 8 h.end) words e3 e4))

abbrev Field : Type 0
Field = ℕ × List ℕ

abbrev hello_read : ℕ → ℕ → ℕ → List ℕ × List ℕ → Option Hello
hello_read format lps end words =
    cond ((nat_le 1 end && (nat_le end (2 ^ 40) && nat_le (length words.0) 8)) && nat_eq (length words.1) 0) (Some (record { format = format; lps = lps; end = end; identity = words.0 })) None

abbrev hello_after_end : ℕ → ℕ → Field → Option Hello
hello_after_end format lps end = words_at end.1 >>= hello_read format lps end.0

abbrev hello_after_lps : ℕ → Field → Option Hello
hello_after_lps format lps = number_at 8 lps.1 >>= hello_after_end format lps.0

abbrev hello_after_format : Field → Option Hello
hello_after_format format = number_at 4 format.1 >>= hello_after_lps format.0

hello_takes : (bytes : List ℕ) (h : Hello) → IsBytes bytes → hello_in bytes ≡ Some h → (bytes ≡ hello_bytes h) × IsHello h
unfolding hello_in hello_bytes
hello_takes bytes h fits e =
    let format = step_of format4 bytes fits hello_after_format h e in
    let lps = step_of format4 format.got.1 format.front.fits (hello_after_lps format.got.0) h format.rest in
    let end = step_of format8 lps.got.1 lps.front.fits (hello_after_end format.got.0 lps.got.0) h lps.rest in
    let words = step_of words_format end.got.1 end.front.fits (hello_read format.got.0 lps.got.0 end.got.0) h end.rest in
    let made : Hello = record { format = format.got.0; lps = lps.got.0; end = end.got.0; identity = words.got.0 } in
    let is = cond_some ((nat_le 1 end.got.0 && (nat_le end.got.0 (2 ^ 40) && nat_le (length words.got.0) 8)) && nat_eq (length words.got.1) 0) made h words.rest in
    let tests = and_parts (nat_le 1 end.got.0 && (nat_le end.got.0 (2 ^ 40) && nat_le (length words.got.0) 8)) (nat_eq (length words.got.1) 0) is.0 in
    let some = and_parts (nat_le 1 end.got.0) (nat_le end.got.0 (2 ^ 40) && nat_le (length words.got.0) 8) tests.0 in
    let few = and_parts (nat_le end.got.0 (2 ^ 40)) (nat_le (length words.got.0) 8) some.1 in
    let none : words.got.1 ≡ [] = nil_from_length words.got.1 (eqb-true (length words.got.1) 0 tests.1) in
    let tail = Takes-then lps.got.1 (big_bytes 8 end.got.0) end.got.1 (words_bytes words.got.0) words.got.1 end.front words.front in
    let more = Takes-then format.got.1 (big_bytes 4 lps.got.0) lps.got.1 (big_bytes 8 end.got.0 ++ words_bytes words.got.0) words.got.1 lps.front tail in
    let front = Takes-then bytes (big_bytes 4 format.got.0) format.got.1 (big_bytes 4 lps.got.0 ++ (big_bytes 8 end.got.0 ++ words_bytes words.got.0)) words.got.1 format.front more in
    subst (λ (y : Hello). (bytes ≡ hello_bytes y) × IsHello y) is.1 (
      whole bytes (hello_bytes made) words.got.1 front none,
      record {
        format = format.is;
        lps = lps.is;
        some = leb-true 1 end.got.0 some.0;
        end = leb-true end.got.0 (2 ^ 40) few.0;
        few = leb-true (length words.got.0) 8 few.1;
        words = words.is.1;
      },
    )

hello_again : (h : Hello) → IsHello h → hello_in (hello_bytes h) ≡ Some h
unfolding hello_in hello_bytes
hello_again h is =
    let some = is.some in
    let end = is.end in
    let few = is.few in
    let words = words_bytes h.identity in
    let tests = and_from _ _ (and_from _ _ (le-leb 1 h.end some) (and_from _ _ (le-leb h.end (2 ^ 40) end) (le-leb (length h.identity) 8 few))) (eq-eqb 0 0 refl) in
    ap hello_in (sym (append-nil (hello_bytes h)))
    ∙ again_step format4 h.format (big_bytes 4 h.lps ++ (big_bytes 8 h.end ++ words)) [] hello_after_format is.format
    ∙ again_step format4 h.lps (big_bytes 8 h.end ++ words) [] (hello_after_lps h.format) is.lps
    ∙ again_step format8 h.end words [] (hello_after_end h.format h.lps) (omega arith)
    ∙ again_last words_format h.identity [] (hello_read h.format h.lps h.end) (omega arith, is.words)
    ∙ ap (λ (b : Bool). cond b (Some h) None) tests

-- 2. Whether a stream begins with a hello

number_head : (head rest : List ℕ) → length head ≡ 4 → number_at 4 (head ++ rest) ≡ Some (big_number 4 head, rest)
unfolding number_at
number_head head rest four =
    let long : 4 ≤ length (head ++ rest) = omega (arith, length-append head rest) in
    let number : big_number 4 (head ++ rest) ≡ big_number 4 head =
    sym (big_from-take 0 4 4 (head ++ rest) (omega arith)) ∙ ap (big_number 4) (take_at head rest 4 four) in
    rw (le-ltb (length (head ++ rest)) 4 long, number, drop_at head rest 4 four) refl

length_behind : (head : List ℕ) (k : ℕ) (rest : List ℕ) → length head ≡ 4 → hello_length (head ++ k ∷ rest) ≡ hello_kind (big_number 4 head) (k ∷ rest)
unfolding hello_length
length_behind head k rest four = ap hello_behind (number_head head (k ∷ rest) four)

five_parts : (head : List ℕ) → length head ≡ 5 → head ≡ take 4 head ++ (slice_index head 4 ∷ [])
five_parts [] e = absurd (omega arith)
five_parts (a ∷ []) e = absurd (omega arith)
five_parts (a ∷ (b ∷ [])) e = absurd (omega arith)
five_parts (a ∷ (b ∷ (c ∷ []))) e = absurd (omega arith)
five_parts (a ∷ (b ∷ (c ∷ (d ∷ [])))) e = absurd (omega arith)
five_parts (a ∷ (b ∷ (c ∷ (d ∷ (k ∷ []))))) e = refl
five_parts (a ∷ (b ∷ (c ∷ (d ∷ (k ∷ (l ∷ more)))))) e = absurd (omega arith)

length_five : (head rest : List ℕ) → length head ≡ 5 → hello_length (head ++ rest) ≡ hello_kind (big_number 4 head) (slice_index head 4 ∷ rest)
length_five head rest five =
    let front = take 4 head in
    let k = slice_index head 4 in
    let four : length front ≡ 4 = omega (arith, length-take 4 head) in
    ap hello_length (ap (λ (l : List ℕ). l ++ rest) (five_parts head five) ∙ append_assoc front (k ∷ []) rest)
    ∙ length_behind front k rest four
    ∙ ap (λ n. hello_kind n (k ∷ rest)) (big_from-take 0 4 4 head (omega arith))

-- fewer than five bytes are no hello
short_none : (bytes : List ℕ) → length bytes < 5 → hello_length bytes ≡ None
unfolding hello_length number_at
short_none bytes few = elim (cases_lt (length bytes) 4) [
  | inl lt ↦ rw (lt-ltb (length bytes) 4 lt) refl
  | inr le ↦ (let none : drop 4 bytes ≡ [] = nil_from_length (drop 4 bytes) (omega (arith, length-drop 4 bytes)) in rw (le-ltb (length bytes) 4 le, none) refl)
]

-- 3. As bytes arrive

-- what holds of the bytes after those that were taken
consumed_on : (old mid new : Option (List ℕ)) (taken : List ℕ) (P Q : List ℕ → List ℕ → Type 0) → Consumes old mid taken → ((b rest : List ℕ) → P b rest → Q (taken ++ b) rest) → OnBytes mid new P → OnBytes old new Q
consumed_on None mid new taken P Q h f p = tt
consumed_on (Some bytes) None new taken P Q h f p = absurd h
consumed_on (Some bytes) (Some b) None taken P Q h f p = absurd p
consumed_on (Some bytes) (Some b) (Some rest) taken P Q h f p = subst (λ (x : List ℕ). Q x rest) (sym h) (f b rest p)

module _ (old new : Option (List ℕ)) (head : List ℕ) (came : ℕ) (five : length head ≡ 5) (given : Consumes old new (take came head)) where
  pub other_short : came < 5 → IsAtEnd new → OnBytes old new (IsFirst (Ok (first.Other head came)))
  other_short few ended =
      on_end old new (take came head) (IsFirst (Ok (first.Other head came))) given ended
      (record { whole = sym (append-nil (take came head)); none = short_none (take came head) (omega (arith, length-take came head)); end = λ _. refl })

  pub other_kind : 5 ≤ came → (nat_eq (slice_index head 4) 16 && nat_le (big_number 4 head) (2 ^ 24)) ≡ false → OnBytes old new (IsFirst (Ok (first.Other head came)))
  other_kind all test =
      let front : take came head ≡ head = take_all came head (omega (arith, five)) in
      on_bytes old new (take came head) (IsFirst (Ok (first.Other head came))) given (λ rest. record {
        whole = refl;
        none = ap (λ (l : List ℕ). hello_length (l ++ rest)) front ∙ length_five head rest five ∙ ap (λ (b : Bool). cond b (Some (big_number 4 head, rest)) None) test;
        end = λ few. absurd (omega (arith, all, few));
      })

pub all_given : (old new : Option (List ℕ)) (head : List ℕ) (came : ℕ) → length head ≡ 5 → 5 ≤ came → Consumes old new (take came head) → Consumes old new head
all_given old new head came five all given = subst (Consumes old new) (take_all came head (omega (arith, five))) given

-- the head of a hello was read
pub record IsHead (old mid : Option (List ℕ)) (head : List ℕ) (n : ℕ) : Type 0 where
  pub five : length head ≡ 5
  pub given : Consumes old mid head
  pub kind : slice_index head 4 ≡ 16
  pub size : n ≡ big_number 4 head
  pub fits : n ≤ 2 ^ 24

module _ (old mid : Option (List ℕ)) (head : List ℕ) (n : ℕ) (i : IsHead old mid head n) where
  length_there : (rest : List ℕ) → hello_length (head ++ rest) ≡ Some (n, rest)
  length_there rest =
      let fits : big_number 4 head ≤ 2 ^ 24 = subst (λ k. k ≤ 2 ^ 24) i.size i.fits in
      let tests : (nat_eq (slice_index head 4) 16 && nat_le (big_number 4 head) (2 ^ 24)) ≡ true = and_from _ _ (eq-eqb (slice_index head 4) 16 i.kind) (le-leb (big_number 4 head) (2 ^ 24) fits) in
      length_five head rest i.five ∙ ap (λ (b : Bool). cond b (Some (big_number 4 head, rest)) None) tests ∙ ap (λ k. Some (k, rest)) (sym i.size)

  pub first_hello : (new : Option (List ℕ)) (h : Hello) → OnBytes mid new (IsBodyRead n (Ok h)) → OnBytes old new (IsFirst (Ok (first.Hello h)))
  first_hello new h = consumed_on old mid new head (IsBodyRead n (Ok h)) (IsFirst (Ok (first.Hello h))) i.given (λ b rest is. ((n, b), length_there b, is))

  fault_there : (fault : WireFault) (b rest : List ℕ) → IsBodyRead n (Err fault) b rest → IsFirst (Err fault) (head ++ b) rest
  fault_there wire.Io b rest is = tt
  fault_there wire.NoMemory b rest is = tt
  fault_there wire.Truncated b rest is = ((n, b), length_there b, is)
  fault_there wire.TooLong b rest is = ((n, b), length_there b, is)
  fault_there wire.BadKind b rest is = ((n, b), length_there b, is)
  fault_there wire.BadBody b rest is = ((n, b), length_there b, is)

  pub first_fault : (new : Option (List ℕ)) (fault : WireFault) (result : Result First WireFault) → IsErrAnd result (λ e. e ≡ fault) → OnBytes mid new (IsBodyRead n (Err fault)) → OnBytes old new (IsFirst result)
  first_fault new fault (Ok x) e is = absurd e
  first_fault new fault (Err f) e is =
      subst (λ (g : WireFault). OnBytes old new (IsFirst (Err g))) (sym e) (consumed_on old mid new head (IsBodyRead n (Err fault)) (IsFirst (Err fault)) i.given (fault_there fault) is)

-- 4. Each hello has one encoding

length_hello : (h : Hello) → length h.identity ≤ 8 → length (hello_bytes h) ≤ 2 ^ 24
unfolding hello_bytes words_bytes
length_hello h few =
    omega (arith, length-append {A = ℕ}, length-bytes_high_first 4 h.format, length-bytes_high_first 4 h.lps, length-bytes_high_first 8 h.end, length-bytes_high_first 1 (length h.identity), length-words h.identity)

body_again : (h : Hello) (rest : List ℕ) → IsHello h → hello_body (length (hello_bytes h)) (hello_bytes h ++ rest) ≡ record { found = Ok (Some h); rest = rest }
body_again h rest is =
    let body = hello_bytes h in
    let long : length body ≤ length (body ++ rest) = omega (arith, length-append body rest) in
    rw (le-ltb (length (body ++ rest)) (length body) long, take_at body rest (length body) refl, drop_at body rest (length body) refl)
    (ap (λ (o : Option Hello). record { found = opened_hello o; rest = rest }) (hello_again h is))

pub hellos_are_read_back : HellosAreReadBack
unfolding hello_frame
hellos_are_read_back h rest is =
    let body = hello_bytes h in
    let size = big_bytes 4 (length body) in
    let fits = length_hello h is.few in
    let number : big_number 4 size ≡ length body = ap (big_number 4) (sym (append-nil size)) ∙ big_number-reads_back 4 (length body) [] (omega (arith, fits)) in
    let found : hello_length ((size ++ 16 ∷ body) ++ rest) ≡ Some (length body, body ++ rest) =
    ap hello_length (append_assoc size (16 ∷ body) rest) ∙ length_behind size 16 (body ++ rest) (length-bytes_high_first 4 (length body))
    ∙ rw (number, le-leb (length body) (2 ^ 24) fits) refl in
    ap (hello_at ((size ++ 16 ∷ body) ++ rest)) found ∙ body_again h rest is

opened_is : (o : Option Hello) (h : Hello) → opened_hello o ≡ Ok (Some h) → o ≡ Some h
opened_is (Some g) h e = let is : g ≡ h = cc in ap (λ (x : Hello). Some x) is
opened_is None h e = absurd (cc)

-- the bytes after the kind
record IsBodyOf (n : ℕ) (bytes : List ℕ) (h : Hello) (rest : List ℕ) : Type 0 where
  pub size : n ≡ length (hello_bytes h)
  pub parts : bytes ≡ hello_bytes h ++ rest
  pub in_range : IsHello h

no_cut : (fault : WireFault) (after rest : List ℕ) (h : Hello) → ◌≡◌ {A = Cut Hello} (record { found = Err fault; rest = after }) (record { found = Ok (Some h); rest = rest }) → ⊥
no_cut fault after rest h e = let found : Err fault ≡ Ok (Some h) = ap (λ (c : Cut Hello). c.found) e in cc

body_of : (n : ℕ) (bytes rest : List ℕ) (h : Hello) → IsBytes bytes → Finds (hello_body n bytes) (Ok (Some h)) rest → IsBodyOf n bytes h rest
body_of n bytes rest h fits e = elim (cases_lt (length bytes) n) [
  | inl lt ↦ absurd (let none : ◌≡◌ {A = Cut Hello} (record { found = Err wire.Truncated; rest = [] }) (record { found = Ok (Some h); rest = rest }) = rw (lt-ltb (length bytes) n lt) at e in no_cut wire.Truncated [] rest h none)
  | inr le ↦ (let some : ◌≡◌ {A = Cut Hello} (record { found = opened_hello (hello_in (take n bytes)); rest = drop n bytes }) (record { found = Ok (Some h); rest = rest }) = rw (le-ltb (length bytes) n le) at e in
      let read = opened_is (hello_in (take n bytes)) h (ap (λ (c : Cut Hello). c.found) some) in
      let left : drop n bytes ≡ rest = ap (λ (c : Cut Hello). c.rest) some in
      let got = hello_takes (take n bytes) h (IsBytes-take n bytes fits) read in
      let long : length (take n bytes) ≡ n = omega (arith, length-take n bytes) in
      record {
        size = sym long ∙ ap length got.0;
        parts = sym (take-append-drop n bytes) ∙ ap (λ (b : List ℕ). b ++ drop n bytes) got.0 ∙ ap (λ (r : List ℕ). hello_bytes h ++ r) left;
        in_range = got.1;
      })
]

no_hello_some : (a b c : Bool) (h : Hello) → ◌≡◌ {A = Result (Option Hello) WireFault} (cond a (Ok None) (cond b (Err wire.Truncated) (cond c (Err wire.TooLong) (Err wire.BadKind)))) (Ok (Some h)) → ⊥
no_hello_some true b c h e = absurd (cc)
no_hello_some false true c h e = absurd (cc)
no_hello_some false false true h e = absurd (cc)
no_hello_some false false false h e = absurd (cc)

none_found : (bytes rest : List ℕ) (h : Hello) → Finds (hello_at bytes None) (Ok (Some h)) rest → ⊥
none_found bytes rest h e = no_hello_some (nat_eq (length bytes) 0) (nat_lt (length bytes) 5) (nat_lt (2 ^ 24) (big_number 4 bytes)) h (ap (λ (c : Cut Hello). c.found) e)

-- the bytes after the length
kind_of_hello : (all : List ℕ) (n : ℕ) (bytes rest : List ℕ) (h : Hello) → IsBytes bytes → Finds (hello_at all (hello_kind n bytes)) (Ok (Some h)) rest → IsHelloOf (big_bytes 4 n ++ bytes) h rest
unfolding hello_frame
kind_of_hello all n [] rest h fits e = absurd (none_found all rest h e)
kind_of_hello all n (k ∷ bytes) rest h fits e = elim (cases_Bool (nat_eq k 16 && nat_le n (2 ^ 24))) [
  | inr other ↦ absurd (let none : Finds (hello_at all None) (Ok (Some h)) rest = rw other at e in none_found all rest h none)
  | inl one ↦ (let some : Finds (hello_body n bytes) (Ok (Some h)) rest = rw one at e in
      let b = body_of n bytes rest h (IsBytes-drop 1 (k ∷ bytes) fits) some in
      let kind : k ≡ 16 = eqb-true k 16 (and_parts (nat_eq k 16) (nat_le n (2 ^ 24)) one).0 in
      let size = big_bytes 4 (length (hello_bytes h)) in
      record {
        encoded = ap (λ (m : ℕ). big_bytes 4 m ++ k ∷ bytes) b.size ∙ ap (λ (j : ℕ). size ++ j ∷ bytes) kind ∙ ap (λ (x : List ℕ). size ++ 16 ∷ x) b.parts ∙ sym (append_assoc size (16 ∷ hello_bytes h) rest);
        in_range = b.in_range;
      })
]

hello_of_length : (bytes rest : List ℕ) (h : Hello) (o : Option Field) → IsBytes bytes → number_at 4 bytes ≡ o → Finds (hello_at bytes (hello_behind o)) (Ok (Some h)) rest → IsHelloOf bytes h rest
hello_of_length bytes rest h None fits e found = absurd (none_found bytes rest h found)
hello_of_length bytes rest h (Some n) fits e found =
    let is = format4.takes bytes n fits e in
    subst (λ (b : List ℕ). IsHelloOf b h rest) (sym is.0.parts) (kind_of_hello bytes n.0 n.1 rest h is.0.fits found)

pub hellos_are_canonical : HellosAreCanonical
unfolding hello_length
hellos_are_canonical bytes rest h fits e = hello_of_length bytes rest h (number_at 4 bytes) fits refl e
