-- What a node's loop does with one frame whose body is not decoded yet.
use Rattle.std.specs.Prelude.{ℕ, ◌^◌, Bool, true, false, nat_lt, if◌then◌else◌, ◌≡◌, ◌⊎◌, length}
use Rattle.std.specs.Prelude.{List}
use Rattle.std.specs.Prelude.{Option, Some, None, Result, Ok, Err, IfOk}
use Rattle.model.specs.Meaning.{Meaning}
use Rattle.node.specs.Handling.{Answer, Node, answer, spent_node, load_answer, load_refusal, refusal}
use Rattle.node.specs.declared.Load.{Load}
use Rattle.node.specs.declared.NodeFault.{NodeFault}
use Rattle.node.specs.declared.NodeFault.TheVariants as node
use Rattle.node.specs.declared.Parcel.{Parcel}
use Rattle.node.specs.declared.Reply.{Reply}
use Rattle.frames.specs.Bodies.{frame_bytes, load_in, parcel_in, reply_bytes, most_body_bytes}
use Rattle.frames.specs.Ranges.{IsReply}
use Rattle.frames.specs.declared.Frame.TheVariants as frame
use Rattle.frames.specs.declared.FrameKind.{FrameKind}
use Rattle.frames.specs.declared.FrameKind.TheVariants as kind
use Rattle.frames.specs.declared.stream.Raw.{Raw}
use Rattle.frames.specs.declared.reaction.Begun.{Begun}
use Rattle.frames.specs.declared.reaction.Begun.TheVariants.{Loaded, Refused}
use Rattle.frames.specs.declared.reaction.Response.{Response}
use Rattle.wire.specs.declared.port.WireFault.{WireFault}
use Rattle.wire.specs.declared.port.WireFault.TheVariants.{BadBody, BadKind, NoMemory, TooLong}

-- 1. What the node answers, with memory and without

abbrev pub lacking : Option NodeFault → Result Node NodeFault
lacking (Some fault) = Err fault
lacking None = Err node.NoMemory

abbrev pub load_at : Bool → ℕ → Load → Result Node NodeFault
load_at lacks lps load =
    if lacks then lacking (load_refusal lps load) else load_answer lps load

abbrev pub answer_lacking : Node → Option NodeFault → Answer
answer_lacking n (Some fault) = record { result = Err fault; node = n }
answer_lacking n None = record { result = Err node.NoMemory; node = spent_node n }

abbrev pub answer_at : Bool → Meaning → Node → Parcel → Answer
answer_at lacks m n parcel =
    if lacks then answer_lacking n (refusal n parcel) else answer m n parcel

-- 2. What the loop does with a frame

-- A reply is written, and the loop goes on; a reply whose body is too long is a fault instead. A
-- refusal is written, and ends the loop.
abbrev pub response_to : Result Reply NodeFault → Result Response WireFault
response_to (Ok reply) =
    if nat_lt most_body_bytes (length (reply_bytes reply)) then Err TooLong
    else Ok (record { frame = frame_bytes (frame.Reply reply); goes_on = true })
response_to (Err fault) = Ok (record { frame = frame_bytes (frame.Fault fault); goes_on = false })

-- the loop's response, and the node after it
pub record Reaction : Type 0 where
  pub response : Result Response WireFault
  pub node : Node

abbrev pub on_parcel : Bool → Meaning → Node → Option Parcel → Reaction
on_parcel lacks m n None = record { response = Err BadBody; node = n }
on_parcel lacks m n (Some parcel) = record {
  response = response_to (answer_at lacks m n parcel).result;
  node = (answer_at lacks m n parcel).node;
}

-- a parcel is allowed everywhere but first
abbrev pub reaction_to : Bool → Meaning → Node → FrameKind → List ℕ → Reaction
reaction_to lacks m n kind.Parcel body = on_parcel lacks m n (parcel_in body)
reaction_to lacks m n kind.Load body = record { response = Err BadKind; node = n }
reaction_to lacks m n kind.Reply body = record { response = Err BadKind; node = n }
reaction_to lacks m n kind.Fault body = record { response = Err BadKind; node = n }

unfoldable pub reaction : Bool → Meaning → Node → Raw → Reaction
reaction lacks m n raw = reaction_to lacks m n raw.kind raw.body

abbrev pub begun_by : Result Node NodeFault → Begun
begun_by (Ok n) = Loaded n
begun_by (Err fault) = Refused (frame_bytes (frame.Fault fault))

abbrev pub on_load : Bool → ℕ → Option Load → Result Begun WireFault
on_load lacks lps None = Err BadBody
on_load lacks lps (Some load) = Ok (begun_by (load_at lacks lps load))

-- a load is allowed first
abbrev pub begun_with : Bool → ℕ → FrameKind → List ℕ → Result Begun WireFault
begun_with lacks lps kind.Load body = on_load lacks lps (load_in body)
begun_with lacks lps kind.Parcel body = Err BadKind
begun_with lacks lps kind.Reply body = Err BadKind
begun_with lacks lps kind.Fault body = Err BadKind

unfoldable pub begun : Bool → ℕ → Raw → Result Begun WireFault
begun lacks lps raw = begun_with lacks lps raw.kind raw.body

-- 3. What the calls return: the above, or `NoMemory`

abbrev pub IsReaction : Reaction → Node → Result Response WireFault → Type 0
IsReaction r n result = ((result ≡ r.response) × (n ≡ r.node)) ⊎ (result ≡ Err NoMemory)

abbrev pub Reacts : Meaning → Node → Node → Raw → Result Response WireFault → Type 0
Reacts m old new raw result = (lacks : Bool) × IsReaction (reaction lacks m old raw) new result

abbrev pub Begins : ℕ → Raw → Result Begun WireFault → Type 0
Begins lps raw result =
    (lacks : Bool) × ((result ≡ begun lacks lps raw) ⊎ (result ≡ Err NoMemory))

-- a reply that was encoded is in the ranges of a frame, so that it is read back
abbrev pub RepliesInRange : Meaning → Node → Raw → Response → Type 0
RepliesInRange m n raw r =
    (parcel : Parcel) → parcel_in raw.body ≡ Some parcel → r.goes_on ≡ true →
    IfOk (answer m n parcel).result IsReply

-- a node that was made is of a model with `lps` processes
abbrev pub HasProcesses : ℕ → Begun → Type 0
HasProcesses lps (Loaded n) = lps ≡ n.lps
HasProcesses lps (Refused text) = Unit {0}
