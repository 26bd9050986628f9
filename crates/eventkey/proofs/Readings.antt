-- The readers of whole messages, and the reads at fixed offsets. Nothing here depends on the fields
-- of a message.
use Rattle.std.specs.Prelude.{nat_lt, nat_eq, IfOk, Result, Ok, Err}
use Rattle.std.proofs.Common.{◌≡◌, ℕ, suc, ◌+◌, ◌-◌, ◌*◌, ◌^◌, ◌≤◌, cond, Bool, true, false, List, [], ◌∷◌, ◌++◌, length, take, drop, Option, Some, None, refl, sym, ap, ap₂, subst, ◌∙◌, arith, inl, inr, eqb-true}
use Rattle.std.proofs.lemmas.Bool.{cases_lt, cases_Bool, lt-ltb, le-ltb}
use Rattle.std.proofs.lemmas.Option.{same_Some, none-some}
use Rattle.std.proofs.lemmas.List.{length-drop, take_all, take_at}
use Rattle.eventkey.specs.Laws.{SignedAreRead, SignedAreCanonical, MessagesAreCanonical, EncodingLengths}
use Rattle.eventkey.specs.Message.{Message, IsRanged}
use Rattle.eventkey.specs.Reading.{IsBytes, ◌>>=◌, number_at, with_rest}
use Rattle.eventkey.specs.Encoding.{made, message_at, message_bytes, message_in, message_read, sign_byte, sign_of, signed_at, signed_bytes, signed_of, signed_read}
use Rattle.eventkey.specs.declared.KeyFault.{KeyFault}
use Rattle.eventkey.specs.declared.KeyFault.TheVariants.{Short, TimeTooLarge}
use Rattle.eventkey.specs.declared.Sign.{Sign}
use Rattle.eventkey.specs.declared.Sign.TheVariants.{Plus, Minus}
use Rattle.eventkey.specs.declared.Signed.{Signed}
use Rattle.eventkey.proofs.Fields.{Takes, IsFormat, IsBytes-drop, bind_some}
use Rattle.eventkey.proofs.Fixed.{messages_are_read}
use Rattle.eventkey.proofs.Encodings.{message_format, length-message_bytes}

-- 1. Messages

message_rest : (short early : Bool) (x : Message) (bytes : List ℕ) →
    with_rest 56 bytes (cond short (Err Short) (cond early (Ok x) (Err TimeTooLarge))) ≡ cond short None (cond early (Some (x, drop 56 bytes)) None)
message_rest true early x bytes = refl
message_rest false true x bytes = refl
message_rest false false x bytes = refl

pub message_at_is : (bytes : List ℕ) → message_at bytes ≡ with_rest 56 bytes (message_read bytes)
message_at_is bytes = messages_are_read bytes ∙ sym (message_rest (nat_lt (length bytes) 56) (nat_lt (message_in bytes).time (2 ^ 41)) (message_in bytes) bytes)

with_rest_some : {X : Type 0} (n : ℕ) (bytes : List ℕ) (read : Result X KeyFault) (x : X) (rest : List ℕ) → with_rest n bytes read ≡ Some (x, rest) → read ≡ Ok x
with_rest_some n bytes (Ok y) x rest e = ap (λ (z : _ × List ℕ). Ok z.0) (same_Some (y, drop n bytes) (x, rest) e)
with_rest_some n bytes (Err fault) x rest e = absurd (none-some (x, rest) e)

if_ok : {X : Type 0} (P : X → Type 0) (read : Result X KeyFault) → ((x : X) → read ≡ Ok x → P x) → IfOk read P
if_ok P (Ok x) f = f x refl
if_ok P (Err fault) f = tt

-- the first n bytes of a list that begins with n known bytes
front_of : (n : ℕ) (bytes text rest : List ℕ) → length text ≡ n → bytes ≡ text ++ rest → take n bytes ≡ text
front_of n bytes text rest long e = ap (take n) e ∙ take_at text rest n long

-- the bytes after the first n, as a slice has them
pub rest_behind : (n : ℕ) (bytes : List ℕ) → take (length bytes - n) (drop n bytes) ≡ drop n bytes
rest_behind n bytes = take_all (length bytes - n) (drop n bytes) (omega (arith, length-drop n bytes))

pub message_read-long : (bytes : List ℕ) → 56 ≤ length bytes → message_read bytes ≡ made (message_in bytes)
message_read-long bytes long = rw (le-ltb (length bytes) 56 long) refl

pub message_read-again : (bytes : List ℕ) (x : Message) (rest : List ℕ) → IsRanged x → bytes ≡ message_bytes x ++ rest → message_read bytes ≡ Ok x
message_read-again bytes x rest is e = with_rest_some 56 bytes (message_read bytes) x rest (sym (message_at_is bytes) ∙ ap message_at e ∙ message_format.again x rest is)

pub message_read-encoded : (bytes : List ℕ) → IsBytes bytes → IfOk (message_read bytes) (λ x. take 56 bytes ≡ message_bytes x)
message_read-encoded bytes fits = if_ok (λ x. take 56 bytes ≡ message_bytes x) (message_read bytes) (λ x e.
    let got = message_format.takes bytes (x, drop 56 bytes) fits (message_at_is bytes ∙ ap (with_rest 56 bytes) e) in
    front_of 56 bytes (message_bytes x) (drop 56 bytes) (length-message_bytes x) got.0.parts)

pub messages_are_canonical : MessagesAreCanonical
messages_are_canonical = (message_format.again, λ bytes x rest fits e. let got = message_format.takes bytes (x, rest) fits e in (got.0.parts, got.1))

-- 2. Signed messages

abbrev with_sign : Sign → Message × List ℕ → Option (Signed × List ℕ)
with_sign sign x = Some (record { sign = sign; message = x.0 }, x.1)

pub first_number : (byte : ℕ) (bytes : List ℕ) → number_at 1 (byte ∷ bytes) ≡ Some (byte, bytes)
unfolding number_at
first_number byte bytes =
    let long = le-ltb (length (byte ∷ bytes)) 1 (omega arith) in
    let is : byte * 1 + 0 ≡ byte = omega arith in
    rw long (ap (λ (b : ℕ). Some (b, bytes)) is)

signed_at_cons : (byte : ℕ) (bytes : List ℕ) → signed_at (byte ∷ bytes) ≡ (sign_of byte >>= λ sign. message_at bytes >>= with_sign sign)
unfolding signed_at
signed_at_cons byte bytes = ap (λ (first : Option (ℕ × List ℕ)). first >>= λ b. sign_of b.0 >>= λ sign. message_at b.1 >>= with_sign sign) (first_number byte bytes)

signed_at_nil : signed_at [] ≡ None
unfolding signed_at number_at
signed_at_nil = refl

signed_rest : (short early : Bool) (sign : Option Sign) (x : Message) (byte : ℕ) (bytes : List ℕ) →
    (sign >>= λ s. with_rest 56 bytes (cond short (Err Short) (cond early (Ok x) (Err TimeTooLarge))) >>= with_sign s)
    ≡ with_rest 57 (byte ∷ bytes) (cond short (Err Short) (signed_of sign (cond early (Ok x) (Err TimeTooLarge))))
signed_rest true early None x byte bytes = refl
signed_rest false early None x byte bytes = refl
signed_rest true early (Some s) x byte bytes = refl
signed_rest false true (Some s) x byte bytes = refl
signed_rest false false (Some s) x byte bytes = refl

one_more : (n : ℕ) → nat_lt (suc n) 57 ≡ nat_lt n 56
one_more n = elim (cases_lt n 56) [
  | inl h ↦ lt-ltb (suc n) 57 (omega arith) ∙ sym (lt-ltb n 56 h)
  | inr h ↦ le-ltb (suc n) 57 (omega arith) ∙ sym (le-ltb n 56 h)
]

pub signed_are_read : SignedAreRead
signed_are_read [] = signed_at_nil
signed_are_read (byte ∷ bytes) =
    signed_at_cons byte bytes
    ∙ ap (λ (read : Option (Message × List ℕ)). sign_of byte >>= λ sign. read >>= with_sign sign) (message_at_is bytes)
    ∙ signed_rest (nat_lt (length bytes) 56) (nat_lt (message_in bytes).time (2 ^ 41)) (sign_of byte) (message_in bytes) byte bytes
    ∙ ap (λ (short : Bool). with_rest 57 (byte ∷ bytes) (cond short (Err Short) (signed_of (sign_of byte) (made (message_in bytes))))) (sym (one_more (length bytes)))

sign_again : (sign : Sign) → sign_of (sign_byte sign) ≡ Some sign
sign_again Plus = refl
sign_again Minus = refl

-- the byte of a sign that was read
byte_of_sign : (byte : ℕ) (sign : Sign) → sign_of byte ≡ Some sign → byte ≡ sign_byte sign
byte_of_sign byte sign e = elim (cases_Bool (nat_eq byte 0)) [
  | inl zero ↦ (let is : Some Plus ≡ Some sign = rw zero at e in eqb-true byte 0 zero ∙ ap sign_byte (same_Some Plus sign is))
  | inr some ↦ elim (cases_Bool (nat_eq byte 1)) [
    | inl one ↦ (let is : Some Minus ≡ Some sign = rw (some, one) at e in eqb-true byte 1 one ∙ ap sign_byte (same_Some Minus sign is))
    | inr more ↦ absurd (let is : None ≡ Some sign = rw (some, more) at e in none-some sign is)
  ]
]

signed_again : (s : Signed) (rest : List ℕ) → IsRanged s.message → signed_at (signed_bytes s ++ rest) ≡ Some (s, rest)
unfolding signed_bytes
signed_again s rest is =
    signed_at_cons (sign_byte s.sign) (message_bytes s.message ++ rest)
    ∙ rw (sign_again s.sign, message_format.again s.message rest is) refl

signed_takes : (bytes : List ℕ) (s : Signed × List ℕ) → IsBytes bytes → signed_at bytes ≡ Some s → Takes bytes (signed_bytes s.0) s.1 × IsRanged s.0.message
unfolding signed_bytes
signed_takes [] s fits e = absurd (none-some s (sym signed_at_nil ∙ e))
signed_takes (byte ∷ bytes) s fits e =
    let sign = bind_some (sign_of byte) (λ sign. message_at bytes >>= with_sign sign) s (sym (signed_at_cons byte bytes) ∙ e) in
    let message = bind_some (message_at bytes) (with_sign sign.0) s sign.2 in
    let got = message_format.takes bytes message.0 (IsBytes-drop 1 (byte ∷ bytes) fits) message.1 in
    let is = same_Some (record { sign = sign.0; message = message.0.0 }, message.0.1) s message.2 in
    subst (λ (t : Signed × List ℕ). Takes (byte ∷ bytes) (sign_byte t.0.sign ∷ message_bytes t.0.message) t.1 × IsRanged t.0.message) is
    (record { parts = ap₂ (λ (b : ℕ) (bs : List ℕ). b ∷ bs) (byte_of_sign byte sign.0 sign.1) got.0.parts; fits = got.0.fits }, got.1)

pub signed_format : IsFormat (λ (s : Signed). IsRanged s.message) signed_bytes signed_at
signed_format = record { takes = signed_takes; again = signed_again }

length-signed_bytes : (s : Signed) → length (signed_bytes s) ≡ 57
unfolding signed_bytes
length-signed_bytes s = omega (arith, length-message_bytes s.message)

pub encodings_are_as_long : EncodingLengths
encodings_are_as_long = (length-message_bytes, length-signed_bytes)

pub signed_read-again : (bytes : List ℕ) (s : Signed) (rest : List ℕ) → IsRanged s.message → bytes ≡ signed_bytes s ++ rest → signed_read bytes ≡ Ok s
signed_read-again bytes s rest is e = with_rest_some 57 bytes (signed_read bytes) s rest (sym (signed_are_read bytes) ∙ ap signed_at e ∙ signed_again s rest is)

pub signed_read-encoded : (bytes : List ℕ) → IsBytes bytes → IfOk (signed_read bytes) (λ s. take 57 bytes ≡ signed_bytes s)
signed_read-encoded bytes fits = if_ok (λ s. take 57 bytes ≡ signed_bytes s) (signed_read bytes) (λ s e.
    let got = signed_takes bytes (s, drop 57 bytes) fits (signed_are_read bytes ∙ ap (with_rest 57 bytes) e) in
    front_of 57 bytes (signed_bytes s) (drop 57 bytes) (length-signed_bytes s) got.0.parts)

pub signed_are_canonical : SignedAreCanonical
signed_are_canonical = (signed_again, λ bytes s rest fits e. let got = signed_takes bytes (s, rest) fits e in (got.0.parts, got.1))
