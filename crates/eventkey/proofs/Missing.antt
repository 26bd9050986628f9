-- A list of values has the length of all of them together, so nothing is read if bytes are missing.
use Rattle.std.specs.Prelude.{Result, Ok, Err, slice_index}
use Rattle.std.proofs.Common.{◌≡◌, ℕ, zero, suc, ◌+◌, ◌*◌, ◌<◌, cond, Bool, List, length, drop, Some, None, sym, ap, ◌∙◌, arith, inl, inr}
use Rattle.std.proofs.Math.Nat.{mul-zero, mul-suc}
use Rattle.std.proofs.lemmas.Bool.{cases_lt, lt-ltb}
use Rattle.std.proofs.lemmas.List.{length-drop}
use Rattle.std.proofs.lemmas.Option.{same_Some, none-some}
use Rattle.eventkey.specs.Reading.{Reader, items_at, with_rest}
use Rattle.eventkey.specs.Encoding.{made, message_at, message_in, message_read, sign_of, signed_at, signed_of, signed_read}
use Rattle.eventkey.specs.declared.KeyFault.{KeyFault}
use Rattle.eventkey.specs.declared.KeyFault.TheVariants.{Short}
use Rattle.eventkey.proofs.Fields.{bind_some}
use Rattle.eventkey.proofs.Fixed.{none_from}
use Rattle.eventkey.proofs.Readings.{message_at_is, signed_are_read}

rest_is : {X : Type 0} (n : ℕ) (bytes : List ℕ) (read : Result X KeyFault) (x : X × List ℕ) → with_rest n bytes read ≡ Some x → drop n bytes ≡ x.1
rest_is n bytes (Ok y) x e = ap (λ (z : _ × List ℕ). z.1) (same_Some (y, drop n bytes) x e)
rest_is n bytes (Err fault) x e = absurd (none-some x e)

-- a reader of values of n bytes each, which refuses fewer bytes
module _ {X : Type 0} (item : Reader X) (n : ℕ) (read : List ℕ → Result X KeyFault) (is : (bytes : List ℕ) → item bytes ≡ with_rest n bytes (read bytes))
    (short : (bytes : List ℕ) → length bytes < n → read bytes ≡ Err Short) where
  takes : (bytes : List ℕ) (x : X × List ℕ) → item bytes ≡ Some x → length bytes ≡ length x.1 + n
  takes bytes x e = elim (cases_lt (length bytes) n) [
    | inl less ↦ absurd (none-some x (sym (is bytes ∙ ap (with_rest n bytes) (short bytes less)) ∙ e))
    | inr long ↦ (let rest = ap length (rest_is n bytes (read bytes) x (sym (is bytes) ∙ e)) in omega (arith, rest, length-drop n bytes))
  ]

  pub items_missing : (count : ℕ) (bytes : List ℕ) → length bytes < n * count → items_at item count bytes ≡ None
  unfolding items_at
  items_missing zero bytes h = absurd (omega (arith, mul-zero n, h))
  items_missing (suc count) bytes h = none_from (items_at item (suc count) bytes) (λ x e.
      let first = bind_some (item bytes) _ x e in
      let others = bind_some (items_at item count first.0.1) _ x first.2 in
      let none = items_missing count first.0.1 (omega (arith, takes bytes first.0 first.1, mul-suc n count, h)) in
      none-some others.0 (sym none ∙ others.1))

pub messages_missing : (count : ℕ) (bytes : List ℕ) → length bytes < 56 * count → items_at message_at count bytes ≡ None
messages_missing = items_missing message_at 56 message_read message_at_is (λ bytes h. ap (λ (b : Bool). cond b (Err Short) (made (message_in bytes))) (lt-ltb (length bytes) 56 h))

pub signed_missing : (count : ℕ) (bytes : List ℕ) → length bytes < 57 * count → items_at signed_at count bytes ≡ None
signed_missing = items_missing signed_at 57 signed_read signed_are_read (λ bytes h. ap (λ (b : Bool). cond b (Err Short) (signed_of (sign_of (slice_index bytes 0)) (made (message_in (drop 1 bytes))))) (lt-ltb (length bytes) 57 h))
