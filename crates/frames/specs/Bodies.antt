-- The bodies of frames: their encodings, and their readers. All numbers
-- are big-endian.
use Rattle.std.specs.Prelude.{ℕ, ◌^◌, Bool, nat_le, nat_lt, nat_eq, ◌&&◌, if◌then◌else◌}
use Rattle.std.specs.Prelude.{List, [], ◌∷◌, ◌++◌, length, Option, Some, None}
use Rattle.byteorder.specs.Endian.{big_bytes}
use Rattle.eventkey.specs.Reading.{◌>>=◌, Reader, number_at, items_at}
use Rattle.eventkey.specs.Encoding.{message_bytes, message_at, signed_bytes, signed_at}
use Rattle.model.specs.Encoding.{words_at, words_bytes}
use Rattle.node.specs.declared.Load.{Load}
use Rattle.node.specs.declared.NodeFault.{NodeFault}
use Rattle.node.specs.declared.NodeFault.TheVariants as node
use Rattle.node.specs.declared.Parcel.{Parcel}
use Rattle.node.specs.declared.Part.{Part}
use Rattle.node.specs.declared.Reply.{Reply}
use Rattle.process.specs.Reports.{counted_bytes, done_at, done_bytes}
use Rattle.frames.specs.declared.Frame.{Frame}
use Rattle.frames.specs.declared.Frame.TheVariants as frame
use Rattle.frames.specs.declared.FrameKind.{FrameKind}
use Rattle.frames.specs.declared.FrameKind.TheVariants as kind
use Rattle.node.specs.Node.{most_nodes}

-- the most bytes of the body of a frame
abbrev pub most_body_bytes : ℕ
most_body_bytes = 2 ^ 24

-- 1. Encodings

unfoldable pub part_bytes : Part → List ℕ
part_bytes p =
    big_bytes 4 p.lp
    ++ (big_bytes 8 p.number ++ (words_bytes p.words ++ counted_bytes 4 message_bytes p.pending))

unfoldable pub load_bytes : Load → List ℕ
load_bytes l =
    big_bytes 4 l.node
    ++ (big_bytes 4 l.nodes
    ++ (big_bytes 8 l.end ++ (big_bytes 8 l.floor ++ counted_bytes 4 part_bytes l.parts)))

unfoldable pub parcel_bytes : Parcel → List ℕ
parcel_bytes p =
    counted_bytes 4 signed_bytes p.deliver ++ (big_bytes 4 p.budget ++ big_bytes 8 p.floor)

-- an optional time
unfoldable pub low_bytes : Option ℕ → List ℕ
low_bytes None = big_bytes 1 0
low_bytes (Some time) = big_bytes 1 1 ++ big_bytes 8 time

unfoldable pub reply_bytes : Reply → List ℕ
reply_bytes r =
    counted_bytes 4 signed_bytes r.out
    ++ (low_bytes r.low ++ (counted_bytes 4 done_bytes r.fossils ++ big_bytes 4 r.ran))

abbrev pub number_of : NodeFault → ℕ
number_of node.NotMine = 1
number_of node.BelowFloor = 2
number_of node.NoMemory = 3
number_of node.NumberLimit = 4
number_of node.Spent = 5
number_of node.FloorFell = 6

unfoldable pub fault_bytes : NodeFault → List ℕ
fault_bytes fault = number_of fault ∷ []

-- 2. Readers

unfoldable pub part_at : Reader Part
part_at bytes = do
  lp ← number_at 4 bytes
  number ← number_at 8 lp.1
  words ← words_at number.1
  count ← number_at 4 words.1
  pending ← items_at message_at count.0 count.1
  if nat_le number.0 (2 ^ 63) then
      Some (
        record { lp = lp.0; number = number.0; words = words.0; pending = pending.0 },
        pending.1,
      )
      else None

unfoldable pub low_at : Reader (Option ℕ)
low_at bytes = do
  flag ← number_at 1 bytes
  if nat_eq flag.0 0 then Some (None, flag.1) else if nat_eq flag.0 1 then (do
    time ← number_at 8 flag.1
    if nat_lt time.0 (2 ^ 41) then Some (Some time.0, time.1) else None) else None

-- 3. Whole bodies: no byte is left over

-- node `node` of `nodes`, with an end and a floor, all in range
abbrev pub is_place : ℕ → ℕ → ℕ → ℕ → Bool
is_place node nodes end floor =
    nat_lt node nodes
    && (nat_le nodes most_nodes && (nat_le 1 end && (nat_le end (2 ^ 40) && nat_le floor end)))

unfoldable pub load_in : List ℕ → Option Load
load_in bytes = do
  node ← number_at 4 bytes
  nodes ← number_at 4 node.1
  end ← number_at 8 nodes.1
  floor ← number_at 8 end.1
  count ← number_at 4 floor.1
  parts ← items_at part_at count.0 count.1
  if is_place node.0 nodes.0 end.0 floor.0 && nat_eq (length parts.1) 0 then
      Some (record {
        node = node.0;
        nodes = nodes.0;
        end = end.0;
        floor = floor.0;
        parts = parts.0;
      })
      else None

unfoldable pub parcel_in : List ℕ → Option Parcel
parcel_in bytes = do
  count ← number_at 4 bytes
  deliver ← items_at signed_at count.0 count.1
  budget ← number_at 4 deliver.1
  floor ← number_at 8 budget.1
  if nat_le floor.0 (2 ^ 40) && nat_eq (length floor.1) 0 then
      Some (record { deliver = deliver.0; budget = budget.0; floor = floor.0 })
      else None

unfoldable pub reply_in : List ℕ → Option Reply
reply_in bytes = do
  count ← number_at 4 bytes
  out ← items_at signed_at count.0 count.1
  low ← low_at out.1
  known ← number_at 4 low.1
  fossils ← items_at done_at known.0 known.1
  ran ← number_at 4 fossils.1
  if nat_eq (length ran.1) 0 then
      Some (record { out = out.0; low = low.0; fossils = fossils.0; ran = ran.0 })
      else None

abbrev pub fault_of : ℕ → Option NodeFault
fault_of number =
    if nat_eq number 1 then Some node.NotMine
    else if nat_eq number 2 then Some node.BelowFloor
    else if nat_eq number 3 then Some node.NoMemory
    else if nat_eq number 4 then Some node.NumberLimit
    else if nat_eq number 5 then Some node.Spent
    else if nat_eq number 6 then Some node.FloorFell
    else None

unfoldable pub fault_in : List ℕ → Option NodeFault
fault_in bytes = do
  number ← number_at 1 bytes
  if nat_eq (length number.1) 0 then fault_of number.0 else None

-- 4. Frames

abbrev pub kind_number : FrameKind → ℕ
kind_number kind.Load = 1
kind_number kind.Parcel = 2
kind_number kind.Reply = 3
kind_number kind.Fault = 4

abbrev pub kind_of : ℕ → Option FrameKind
kind_of number =
    if nat_eq number 1 then Some kind.Load
    else if nat_eq number 2 then Some kind.Parcel
    else if nat_eq number 3 then Some kind.Reply
    else if nat_eq number 4 then Some kind.Fault
    else None

abbrev pub kind_in : Frame → FrameKind
kind_in (frame.Load l) = kind.Load
kind_in (frame.Parcel p) = kind.Parcel
kind_in (frame.Reply r) = kind.Reply
kind_in (frame.Fault f) = kind.Fault

abbrev pub body_bytes : Frame → List ℕ
body_bytes (frame.Load l) = load_bytes l
body_bytes (frame.Parcel p) = parcel_bytes p
body_bytes (frame.Reply r) = reply_bytes r
body_bytes (frame.Fault f) = fault_bytes f

-- the length of the body, the kind, and the body
unfoldable pub framed : FrameKind → List ℕ → List ℕ
framed k body = big_bytes 4 (length body) ++ (kind_number k ∷ body)

abbrev pub frame_bytes : Frame → List ℕ
frame_bytes f = framed (kind_in f) (body_bytes f)

-- the frame of a body that was read
abbrev pub seen_as : {X : Type 0} → (X → Frame) → Option X → Option Frame
seen_as f (Some x) = Some (f x)
seen_as f None = None

-- the frame of this kind that all of the bytes encode
abbrev pub frame_in : FrameKind → List ℕ → Option Frame
frame_in kind.Load body = seen_as (λ l. frame.Load l) (load_in body)
frame_in kind.Parcel body = seen_as (λ p. frame.Parcel p) (parcel_in body)
frame_in kind.Reply body = seen_as (λ r. frame.Reply r) (reply_in body)
frame_in kind.Fault body = seen_as (λ f. frame.Fault f) (fault_in body)
