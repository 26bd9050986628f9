-- The definitions, computed: what is first in a stream, and the frames of a ring of three
-- processes.
use Rattle.std.proofs.Common.{◌≡◌, List, ℕ, [], ◌∷◌, ◌++◌, length, length-append, arith, ap, refl, Some, Ok}
use Rattle.byteorder.specs.Endian.{big_bytes}
use Rattle.eventkey.specs.Reading.{number_at, items_at}
use Rattle.eventkey.specs.Encoding.{message_at, signed_at}
use Rattle.model.specs.Encoding.{words_at}
use Rattle.frames.specs.Bodies.{load_in, parcel_in, part_at, fault_in}
use Rattle.frames.specs.Cutting.{cut, frame_cut, fails}
use Rattle.frames.specs.Streams.{IsWithin}
use Rattle.frames.specs.declared.Frame.TheVariants.{Load, Parcel}
use Rattle.wire.specs.declared.port.WireFault.TheVariants.{BadBody, BadKind, TooLong, Truncated}

truncated : frame_cut (0 ∷ 0 ∷ 0 ∷ 16 ∷ 2 ∷ []) ≡ fails Truncated []
unfolding cut number_at
truncated = refl

too_long : frame_cut (1 ∷ 0 ∷ 0 ∷ 1 ∷ []) ≡ fails TooLong []
unfolding cut number_at
too_long = refl

bad_kind : frame_cut (0 ∷ 0 ∷ 0 ∷ 0 ∷ 5 ∷ []) ≡ fails BadKind []
unfolding cut number_at
bad_kind = refl

bad_body : frame_cut (0 ∷ 0 ∷ 0 ∷ 1 ∷ 4 ∷ 7 ∷ []) ≡ fails BadBody []
unfolding cut number_at fault_in
bad_body = refl

-- the load of node 1 of three, whose only process has one state word, and a byte after it
abbrev load_body : List ℕ
load_body =
    big_bytes 4 1 ++ (big_bytes 4 3 ++ (big_bytes 8 10 ++ (big_bytes 8 0 ++ (big_bytes 4 1
    ++ (big_bytes 4 1 ++ (big_bytes 8 0 ++ (1 ∷ (big_bytes 8 0 ++ big_bytes 4 0))))))))

load : frame_cut (0 ∷ 0 ∷ 0 ∷ 53 ∷ 1 ∷ (load_body ++ 9 ∷ []))
    ≡ record {
      found = Ok (Some (Load (record {
        node = 1;
        nodes = 3;
        end = 10;
        floor = 0;
        parts = record { lp = 1; number = 0; words = 0 ∷ []; pending = [] } ∷ [];
      })));
      rest = 9 ∷ [];
    }
unfolding cut number_at items_at message_at words_at part_at load_in
load = refl

-- a parcel without deliveries
abbrev parcel_body : List ℕ
parcel_body = big_bytes 4 0 ++ (big_bytes 4 16 ++ big_bytes 8 1)

parcel : frame_cut (0 ∷ 0 ∷ 0 ∷ 16 ∷ 2 ∷ parcel_body)
    ≡ record { found = Ok (Some (Parcel (record { deliver = []; budget = 16; floor = 1 }))); rest = [] }
unfolding cut number_at items_at signed_at parcel_in
parcel = refl

one_byte_more : frame_cut (0 ∷ 0 ∷ 0 ∷ 17 ∷ 2 ∷ (parcel_body ++ 0 ∷ [])) ≡ fails BadBody []
unfolding cut number_at items_at signed_at parcel_in
one_byte_more = refl

-- how far a reader that fails may have read: within the frame, and no further
within : IsWithin (0 ∷ 0 ∷ 0 ∷ 1 ∷ 4 ∷ 7 ∷ 9 ∷ []) (7 ∷ 9 ∷ [])
unfolding cut number_at
within = record { front = (0 ∷ 0 ∷ 0 ∷ 1 ∷ 4 ∷ [], refl); behind = (7 ∷ [], refl) }

whole : IsWithin (0 ∷ 0 ∷ 0 ∷ 1 ∷ 4 ∷ 7 ∷ 9 ∷ []) (9 ∷ [])
unfolding cut number_at
whole = record { front = (0 ∷ 0 ∷ 0 ∷ 1 ∷ 4 ∷ 7 ∷ [], refl); behind = ([], refl) }

not_behind : IsWithin (0 ∷ 0 ∷ 0 ∷ 1 ∷ 4 ∷ 7 ∷ 9 ∷ []) [] → ⊥
unfolding cut number_at
not_behind w =
    let none : [] ≡ w.behind.0 ++ 9 ∷ [] = w.behind.1 in
    let size : 0 ≡ length (w.behind.0 ++ 9 ∷ []) = ap length none in
    absurd (omega (arith, length-append w.behind.0 (9 ∷ []), size))

-- if the length is too long, its four bytes
not_behind_length : IsWithin (1 ∷ 0 ∷ 0 ∷ 1 ∷ 9 ∷ []) [] → ⊥
unfolding cut number_at
not_behind_length w =
    let none : [] ≡ w.behind.0 ++ 9 ∷ [] = w.behind.1 in
    let size : 0 ≡ length (w.behind.0 ++ 9 ∷ []) = ap length none in
    absurd (omega (arith, length-append w.behind.0 (9 ∷ []), size))
