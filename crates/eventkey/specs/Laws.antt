-- The laws of messages, bags and encodings, as statements about definitions alone.
use Rattle.std.specs.Cmp.{IsTotalOrder}
use Rattle.std.specs.Prelude.{◌≡◌, ◌↔◌, ◌+◌, ◌^◌, ◌<◌, ◌≤◌, List, ℕ, ◌++◌, length, drop, nat_lt}
use Rattle.std.specs.Prelude.{if◌then◌else◌, Some, None}
use Rattle.std.specs.declared.cmp.Ordering.TheVariants.{Less, Equal}
use Rattle.eventkey.specs.Bag.{IsAscending, add, copies, one_if_same, remove_one}
use Rattle.eventkey.specs.Message.{Message, IsRanged, message_cmp}
use Rattle.eventkey.specs.Reading.{IsBytes, with_rest}
use Rattle.eventkey.specs.Encoding.{message_bytes, message_at, message_in, signed_bytes, signed_at}
use Rattle.eventkey.specs.Encoding.{signed_read}
use Rattle.eventkey.specs.declared.Signed.{Signed}

-- the order of messages is total, two messages that it calls equal are the same, and earlier times
-- come first
pub record MessagesAreOrdered : Type 0 where
  pub total : IsTotalOrder message_cmp
  pub exact : (x y : Message) → (message_cmp x y ≡ Equal) ↔ (x ≡ y)
  pub by_time : (x y : Message) → x.time < y.time → message_cmp x y ≡ Less

-- `add` and `remove_one` change the number of copies by one and keep bags ascending, and two bags
-- with the same number of copies of each message are the same
pub record BagsCountCopies : Type 0 where
  pub added : (x m : Message) (bag : List Message) →
      copies x (add m bag) ≡ one_if_same x m + copies x bag
  pub removed : (x m : Message) (bag : List Message) → 1 ≤ copies m bag →
      one_if_same x m + copies x (remove_one m bag) ≡ copies x bag
  pub add_ascends : (m : Message) (bag : List Message) → IsAscending bag → IsAscending (add m bag)
  pub remove_ascends : (m : Message) (bag : List Message) → IsAscending bag →
      IsAscending (remove_one m bag)
  pub same : (bag other : List Message) → IsAscending bag → IsAscending other →
      ((x : Message) → copies x bag ≡ copies x other) → bag ≡ other

-- an encoded message is read back, whatever follows it, and a message that is read encodes to the
-- bytes that it was read from
abbrev pub MessagesAreCanonical : Type 0
MessagesAreCanonical =
    ((x : Message) (rest : List ℕ) → IsRanged x →
    message_at (message_bytes x ++ rest) ≡ Some (x, rest))
    × ((bytes : List ℕ) (x : Message) (rest : List ℕ) → IsBytes bytes →
    message_at bytes ≡ Some (x, rest) → (bytes ≡ message_bytes x ++ rest) × IsRanged x)

-- reading field by field gives the same as reading all fields at their offsets
abbrev pub MessagesAreRead : Type 0
MessagesAreRead = (bytes : List ℕ) →
    message_at bytes ≡ (
    if nat_lt (length bytes) 56 then None
    else if nat_lt (message_in bytes).time (2 ^ 41) then Some (message_in bytes, drop 56 bytes)
    else None)

-- the same for signed messages
abbrev pub SignedAreCanonical : Type 0
SignedAreCanonical =
    ((s : Signed) (rest : List ℕ) → IsRanged s.message →
    signed_at (signed_bytes s ++ rest) ≡ Some (s, rest))
    × ((bytes : List ℕ) (s : Signed) (rest : List ℕ) → IsBytes bytes →
    signed_at bytes ≡ Some (s, rest) → (bytes ≡ signed_bytes s ++ rest) × IsRanged s.message)

abbrev pub SignedAreRead : Type 0
SignedAreRead = (bytes : List ℕ) → signed_at bytes ≡ with_rest 57 bytes (signed_read bytes)

-- the lengths of encodings in bytes
abbrev pub EncodingLengths : Type 0
EncodingLengths =
    ((x : Message) → length (message_bytes x) ≡ 56)
    × ((s : Signed) → length (signed_bytes s) ≡ 57)
