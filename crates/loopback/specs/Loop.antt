-- A port to a node behind bytes in memory.
use Rattle.std.specs.Prelude.{ℕ, true, false, ◌≡◌, List, [], Option, Some, Result, Ok}
use Rattle.model.specs.Meaning.{Meaning}
use Rattle.node.specs.Handling.{Node}
use Rattle.node.specs.declared.Parcel.{Parcel}
use Rattle.frames.specs.Cutting.{frame_cut}
use Rattle.frames.specs.Laws.{IsEncoded}
use Rattle.frames.specs.declared.Frame.{Frame}
use Rattle.frames.specs.declared.Frame.TheVariants as frame
use Rattle.wire.specs.Port.{PortState, Stage, all_faults, nobody}
use Rattle.wire.specs.Port.Stage.{Ended as AtEnd, Fresh as AtFirst}
use Rattle.wire.specs.Port.Stage.{Idle as AtRest, Posted as AtWork}
use Rattle.wire.specs.declared.port.WireFault.{WireFault}
use Rattle.loopback.specs.declared.port.Held.{Held}
use Rattle.loopback.specs.declared.port.Held.TheVariants.{Ended, Fresh, Idle, Posted}

-- a port: its model, and what it holds of its node
pub record Loop (M : Type 0) : Type 0 where
  pub model : M
  pub held : Held

-- a parcel that delivers nothing
abbrev pub no_parcel : Parcel
no_parcel = record { deliver = []; budget = 0; floor = 0 }

abbrev pub parcel_of : Result (Option Frame) WireFault → Parcel
parcel_of (Ok (Some (frame.Parcel p))) = p
parcel_of found = no_parcel

-- the parcel whose frame is first in the bytes
abbrev pub posted_in : List ℕ → Parcel
posted_in bytes = parcel_of (frame_cut bytes).found

abbrev pub stage_of : Held → Stage
stage_of Fresh = AtFirst
stage_of (Idle node) = AtRest
stage_of (Posted node bytes) = AtWork (posted_in bytes)
stage_of Ended = AtEnd

abbrev pub loopback_node : Held → Node
loopback_node Fresh = nobody
loopback_node (Idle node) = node
loopback_node (Posted node bytes) = node
loopback_node Ended = nobody

abbrev pub state_of : Meaning → Held → PortState
state_of m held = record {
  stage = stage_of held;
  faithful = true;
  resource_faults = all_faults;
  meaning = m;
  node = loopback_node held;
}

-- the same for a `Loop`
abbrev pub state_by : {M : Type 0} → (M → Meaning) → Loop M → PortState
state_by meaning port = state_of (meaning port.model) port.held

-- the invariant of a port: its node is not spent and runs this model, and the bytes are exactly the
-- frame of a parcel
abbrev pub IsOfModel : Meaning → Held → Type 0
IsOfModel m (Idle node) = (node.spent ≡ false) × (node.lps ≡ m.lps)
IsOfModel m (Posted node bytes) =
    (node.spent ≡ false) × (node.lps ≡ m.lps)
    × IsEncoded bytes (frame.Parcel (posted_in bytes)) []
IsOfModel m held = Unit {0}
