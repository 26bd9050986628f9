-- What comes back of what was sent to a node, and why a call of its port fails.
use Rattle.std.specs.Prelude.{◌≡◌, ◌<◌, ◌^◌, ◌⊎◌, ℕ, length, None, Ok, Err, Some}
use Rattle.model.specs.Meaning.{Meaning}
use Rattle.node.specs.Handling.{Answer, Node, answer, load_refusal, loaded_node, refusal}
use Rattle.node.specs.declared.Load.{Load}
use Rattle.node.specs.declared.NodeFault.TheVariants as node
use Rattle.node.specs.declared.Parcel.{Parcel}
use Rattle.node.specs.declared.Reply.{Reply}
use Rattle.frames.specs.Bodies.{load_bytes, parcel_bytes, reply_bytes, most_body_bytes}
use Rattle.frames.specs.declared.Frame.{Frame}
use Rattle.frames.specs.declared.Frame.TheVariants as frame
use Rattle.wire.specs.declared.port.PortFault.{PortFault}
use Rattle.wire.specs.declared.port.PortFault.TheVariants.{Closed, Peer, Wire}
use Rattle.wire.specs.declared.port.WireFault.TheVariants as wire

-- 1. Why a call fails

-- A load: its bytes are too many, the allocation of a frame failed, or the node refuses it. The
-- node's own allocation can fail only if it does not refuse the load.
abbrev pub IsLoadCause : ℕ → Load → PortFault → Type 0
IsLoadCause lps load (Wire wire.TooLong) = most_body_bytes < length (load_bytes load)
IsLoadCause lps load (Wire wire.NoMemory) = Unit {0}
IsLoadCause lps load (Peer n) =
    (load_refusal lps load ≡ Some n) ⊎ ((load_refusal lps load ≡ None) × (n ≡ node.NoMemory))
IsLoadCause lps load fault = ⊥

-- a parcel: its bytes are too many, or an allocation failed
abbrev pub IsPostCause : Parcel → PortFault → Type 0
IsPostCause parcel (Wire wire.TooLong) = most_body_bytes < length (parcel_bytes parcel)
IsPostCause parcel (Wire wire.NoMemory) = Unit {0}
IsPostCause parcel fault = ⊥

-- the node's reply to this parcel has too many bytes
pub record IsLongReply (m : Meaning) (n : Node) (parcel : Parcel) : Type 0 where
  pub reply : Reply
  pub is : (answer m n parcel).result ≡ Ok reply
  pub long : most_body_bytes < length (reply_bytes reply)

abbrev pub IsTakeCause : Meaning → Node → Parcel → PortFault → Type 0
IsTakeCause m n parcel (Wire wire.TooLong) = IsLongReply m n parcel
IsTakeCause m n parcel (Wire wire.NoMemory) = Unit {0}
IsTakeCause m n parcel (Peer f) =
    ((answer m n parcel).result ≡ Err f) ⊎ ((refusal n parcel ≡ None) × (f ≡ node.NoMemory))
IsTakeCause m n parcel fault = ⊥

-- 2. Internal

-- the fault of reading this frame where a reply is expected: the refusal in it, a failed
-- allocation, or `Closed` for a load or a parcel
abbrev pub IsReadOf : Frame → PortFault → Type 0
IsReadOf f (Peer n) = f ≡ frame.Fault n
IsReadOf f (Wire wire.NoMemory) = Unit {0}
IsReadOf (frame.Load l) Closed = Unit {0}
IsReadOf (frame.Parcel p) Closed = Unit {0}
IsReadOf f fault = ⊥

-- the node that this load makes, for a model of this many processes
abbrev pub IsMade : ℕ → Load → Node → Type 0
IsMade lps load n = (load_refusal lps load ≡ None) × (n ≡ loaded_node lps load)

-- the reply in an answer, and the node after it
abbrev pub IsReplyBy : Answer → Node → Reply → Type 0
IsReplyBy a n reply = (a.result ≡ Ok reply) × (n ≡ a.node)
