-- Reading all fields of a message at their offsets.
use Rattle.std.specs.Prelude.{nat_lt}
use Rattle.std.proofs.Common.{◌≡◌, ℕ, ◌+◌, ◌^◌, ◌≤◌, cond, List, length, drop, Option, Some, None, refl, sym, ap, ◌∙◌, arith, inl, inr}
use Rattle.std.proofs.lemmas.Bool.{cases_lt, cond-true, cond-false, lt-ltb, le-ltb}
use Rattle.std.proofs.lemmas.Option.{same_Some, none-some}
use Rattle.std.proofs.lemmas.List.{length-drop, drop-drop}
use Rattle.byteorder.specs.Endian.{big_number}
use Rattle.eventkey.specs.Message.{Message}
use Rattle.eventkey.specs.Reading.{number_at}
use Rattle.eventkey.specs.Encoding.{message_at, message_in}
use Rattle.eventkey.specs.Laws.{MessagesAreRead}
use Rattle.eventkey.proofs.Fields.{bind_some}
use Rattle.eventkey.proofs.Encodings.{message_from_time, message_from_from, message_from_number, message_from_to, message_from_a, message_from_b, message_from_c, message_from_d}

number_here : (n k : ℕ) (bytes : List ℕ) → k + n ≤ length bytes → number_at n (drop k bytes) ≡ Some (big_number n (drop k bytes), drop (k + n) bytes)
unfolding number_at
number_here n k bytes long =
    cond-false (nat_lt (length (drop k bytes)) n) None (Some (big_number n (drop k bytes), drop n (drop k bytes))) (le-ltb (length (drop k bytes)) n (omega (arith, length-drop k bytes)))
    ∙ ap (λ (rest : List ℕ). Some (big_number n (drop k bytes), rest)) (drop-drop n k bytes)

number_size : (n : ℕ) (bytes : List ℕ) (x : ℕ × List ℕ) → number_at n bytes ≡ Some x → length bytes ≡ n + length x.1
unfolding number_at
number_size n bytes x e = elim (cases_lt (length bytes) n) [
  | inl short ↦ absurd (let none : None ≡ Some x = rw (lt-ltb (length bytes) n short) at e in none-some x none)
  | inr long ↦
      (let is : Some (big_number n bytes, drop n bytes) ≡ Some x = rw (le-ltb (length bytes) n long) at e in
      let rest : length (drop n bytes) ≡ length x.1 = ap (λ (y : ℕ × List ℕ). length y.1) (same_Some (big_number n bytes, drop n bytes) x is) in
      omega (arith, length-drop n bytes))
]

-- if a message is read, there are at least 56 bytes
message_size : (bytes : List ℕ) (x : Message × List ℕ) → message_at bytes ≡ Some x → 56 ≤ length bytes
unfolding message_at
message_size bytes x e =
    let time = bind_some (number_at 8 bytes) message_from_time x e in
    let from = bind_some (number_at 4 time.0.1) (message_from_from time.0) x time.2 in
    let number = bind_some (number_at 8 from.0.1) (message_from_number time.0 from.0) x from.2 in
    let to = bind_some (number_at 4 number.0.1) (message_from_to time.0 from.0 number.0) x number.2 in
    let a = bind_some (number_at 8 to.0.1) (message_from_a time.0 from.0 number.0 to.0) x to.2 in
    let b = bind_some (number_at 8 a.0.1) (message_from_b time.0 from.0 number.0 to.0 a.0) x a.2 in
    let c = bind_some (number_at 8 b.0.1) (message_from_c time.0 from.0 number.0 to.0 a.0 b.0) x b.2 in
    let d = bind_some (number_at 8 c.0.1) (message_from_d time.0 from.0 number.0 to.0 a.0 b.0 c.0) x c.2 in
    let s1 = number_size 8 bytes time.0 time.1 in
    let s2 = number_size 4 time.0.1 from.0 from.1 in
    let s3 = number_size 8 from.0.1 number.0 number.1 in
    let s4 = number_size 4 number.0.1 to.0 to.1 in
    let s5 = number_size 8 to.0.1 a.0 a.1 in
    let s6 = number_size 8 a.0.1 b.0 b.1 in
    let s7 = number_size 8 b.0.1 c.0 c.1 in
    let s8 = number_size 8 c.0.1 d.0 d.1 in
    omega arith

pub none_from : {X : Type 0} (o : Option X) → ((x : X) → o ≡ Some x → ⊥) → o ≡ None
none_from None f = refl
none_from (Some x) f = absurd (f x refl)

pub messages_are_read : MessagesAreRead
unfolding message_at message_in
messages_are_read bytes = elim (cases_lt (length bytes) 56) [
  | inl short ↦
      none_from (message_at bytes) (λ x e. let long = message_size bytes x e in omega arith)
      ∙ sym (cond-true (nat_lt (length bytes) 56) None (cond (nat_lt (message_in bytes).time (2 ^ 41)) (Some (message_in bytes, drop 56 bytes)) None) (lt-ltb (length bytes) 56 short))
  | inr long ↦
      rw (number_here 8 0 bytes (omega arith), number_here 4 8 bytes (omega arith), number_here 8 12 bytes (omega arith), number_here 4 20 bytes (omega arith), number_here 8 24 bytes (omega arith), number_here 8 32 bytes (omega arith), number_here 8 40 bytes (omega arith), number_here 8 48 bytes (omega arith), le-ltb (length bytes) 56 long) refl
]
