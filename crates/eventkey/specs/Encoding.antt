-- The encoding of messages, and how it is read. It is canonical: each
-- message has one encoding.
use Rattle.std.specs.Prelude.{ℕ, ◌^◌, nat_lt, nat_eq, if◌then◌else◌, List, ◌∷◌, ◌++◌, length, drop}
use Rattle.std.specs.Prelude.{slice_index, Option, Some, None, Result, Ok, Err}
use Rattle.byteorder.specs.Endian.{big_number, big_bytes}
use Rattle.eventkey.specs.Message.{Message}
use Rattle.eventkey.specs.Reading.{◌>>=◌, Reader, number_at}
use Rattle.eventkey.specs.declared.KeyFault.{KeyFault}
use Rattle.eventkey.specs.declared.KeyFault.TheVariants.{Short, TimeTooLarge, BadSign}
use Rattle.eventkey.specs.declared.Sign.{Sign}
use Rattle.eventkey.specs.declared.Sign.TheVariants.{Plus, Minus}
use Rattle.eventkey.specs.declared.Signed.{Signed}

-- the message, or `TimeTooLarge` if its time is not below the limit
abbrev pub made : Message → Result Message KeyFault
made m = if nat_lt m.time (2 ^ 41) then Ok m else Err TimeTooLarge

-- the encoding of a message: 56 bytes, the fields in order
unfoldable pub message_bytes : Message → List ℕ
message_bytes x =
    big_bytes 8 x.time ++ (big_bytes 4 x.from ++ (big_bytes 8 x.number
    ++ (big_bytes 4 x.to ++ (big_bytes 8 x.a ++ (big_bytes 8 x.b
    ++ (big_bytes 8 x.c ++ big_bytes 8 x.d))))))

-- reads a message whose time is below 2^41, field by field
unfoldable pub message_at : Reader Message
message_at bytes = do
  time ← number_at 8 bytes
  from ← number_at 4 time.1
  number ← number_at 8 from.1
  to ← number_at 4 number.1
  a ← number_at 8 to.1
  b ← number_at 8 a.1
  c ← number_at 8 b.1
  d ← number_at 8 c.1
  if nat_lt time.0 (2 ^ 41) then Some (
    record {
      time = time.0;
      from = from.0;
      number = number.0;
      to = to.0;
      a = a.0;
      b = b.0;
      c = c.0;
      d = d.0;
    },
    d.1,
  ) else None

-- the message in the first 56 bytes, whatever its time
unfoldable pub message_in : List ℕ → Message
message_in bytes = record {
  time = big_number 8 bytes;
  from = big_number 4 (drop 8 bytes);
  number = big_number 8 (drop 12 bytes);
  to = big_number 4 (drop 20 bytes);
  a = big_number 8 (drop 24 bytes);
  b = big_number 8 (drop 32 bytes);
  c = big_number 8 (drop 40 bytes);
  d = big_number 8 (drop 48 bytes);
}

-- the message in the first 56 bytes, or why they are refused
abbrev pub message_read : List ℕ → Result Message KeyFault
message_read bytes = if nat_lt (length bytes) 56 then Err Short else made (message_in bytes)

-- the sign byte: 0 for a message, 1 for an antimessage
abbrev pub sign_byte : Sign → ℕ
sign_byte Plus = 0
sign_byte Minus = 1

-- the encoding of a signed message: 57 bytes, the sign byte, then the message
unfoldable pub signed_bytes : Signed → List ℕ
signed_bytes s = sign_byte s.sign ∷ message_bytes s.message

-- the sign that a byte encodes
abbrev pub sign_of : ℕ → Option Sign
sign_of byte = if nat_eq byte 0 then Some Plus else if nat_eq byte 1 then Some Minus else None

-- reads a signed message
unfoldable pub signed_at : Reader Signed
signed_at bytes = do
  byte ← number_at 1 bytes
  sign ← sign_of byte.0
  message ← message_at byte.1
  Some (record { sign = sign; message = message.0 }, message.1)

-- joins a sign and a message; a bad sign is reported before a fault of the message
abbrev pub signed_of : Option Sign → Result Message KeyFault → Result Signed KeyFault
signed_of None read = Err BadSign
signed_of (Some sign) (Ok message) = Ok (record { sign = sign; message = message })
signed_of (Some sign) (Err fault) = Err fault

-- the signed message in the first 57 bytes, or why they are refused
abbrev pub signed_read : List ℕ → Result Signed KeyFault
signed_read bytes =
    if nat_lt (length bytes) 57 then Err Short
    else signed_of (sign_of (slice_index bytes 0)) (made (message_in (drop 1 bytes)))
