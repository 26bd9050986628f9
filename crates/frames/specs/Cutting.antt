-- A stream of bytes is cut from the left into frames: what is first in it,
-- and what is after that.
use Rattle.std.specs.Prelude.{ℕ, ◌^◌, nat_lt, nat_le, nat_eq, ◌&&◌, if◌then◌else◌}
use Rattle.std.specs.Prelude.{List, [], ◌∷◌, take, drop, length}
use Rattle.std.specs.Prelude.{Option, Some, None, Result, Ok, Err}
use Rattle.eventkey.specs.Reading.{◌>>=◌, number_at}
use Rattle.frames.specs.Bodies.{frame_in, kind_of, most_body_bytes}
use Rattle.frames.specs.declared.Frame.{Frame}
use Rattle.frames.specs.declared.FrameKind.{FrameKind}
use Rattle.frames.specs.declared.stream.Raw.{Raw}
use Rattle.wire.specs.declared.port.WireFault.{WireFault}
use Rattle.wire.specs.declared.port.WireFault.TheVariants.{BadBody, BadKind, TooLong, Truncated}

-- what is found (nothing if there are no bytes), and the bytes that are left
pub record Cut (X : Type 0) : Type 0 where
  pub found : Result (Option X) WireFault
  pub rest : List ℕ

abbrev pub fails : {X : Type 0} → WireFault → List ℕ → Cut X
fails fault rest = record { found = Err fault; rest = rest }

-- The faults are found in this order: a length above 2^24, an unknown kind, too few bytes.
abbrev pub cut_body : ℕ → List ℕ → Option FrameKind → Cut Raw
cut_body n bytes None = fails BadKind bytes
cut_body n bytes (Some kind) =
    if nat_lt (length bytes) n then fails Truncated []
    else record {
      found = Ok (Some (record { kind = kind; body = take n bytes }));
      rest = drop n
          bytes;
    }

abbrev pub cut_kind : ℕ → List ℕ → Cut Raw
cut_kind n [] = fails Truncated []
cut_kind n (k ∷ bytes) = cut_body n bytes (kind_of k)

abbrev pub cut_length : Option (ℕ × List ℕ) → Cut Raw
cut_length None = fails Truncated []
cut_length (Some n) = if nat_lt most_body_bytes n.0 then fails TooLong n.1 else cut_kind n.0 n.1

-- the first frame, with its body not decoded
unfoldable pub cut : List ℕ → Cut Raw
cut [] = record { found = Ok None; rest = [] }
cut (b ∷ bytes) = cut_length (number_at 4 (b ∷ bytes))

-- the frame that a kind and a body encode, or `BadBody`
abbrev pub opened : Raw → Result (Option Frame) WireFault
opened raw = elim (frame_in raw.kind raw.body) [ Some f ↦ Ok (Some f) | None ↦ Err BadBody ]

abbrev pub opened_cut : Cut Raw → Cut Frame
opened_cut c = elim c.found [
  | Ok found ↦ elim found [
    | Some raw ↦ record { found = opened raw; rest = c.rest }
    | None ↦ record { found = Ok None; rest = c.rest }
  ]
  | Err fault ↦ fails fault c.rest
]

-- the first frame
abbrev pub frame_cut : List ℕ → Cut Frame
frame_cut bytes = opened_cut (cut bytes)

-- the frame that takes up all of the bytes, with its body not decoded
unfoldable pub raw_in : List ℕ → Option Raw
raw_in bytes = do
  size ← number_at 4 bytes
  number ← number_at 1 size.1
  kind ← kind_of number.0
  if nat_le size.0 most_body_bytes && nat_eq (length number.1) size.0 then
      Some (record { kind = kind; body = number.1 })
      else None

-- the frame that all of the bytes encode
abbrev pub whole_in : List ℕ → Option Frame
whole_in bytes = raw_in bytes >>= (λ raw. frame_in raw.kind raw.body)
