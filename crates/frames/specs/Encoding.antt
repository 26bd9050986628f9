-- What an encoder returns: the bytes of a frame, or a fault.
use Rattle.std.specs.Prelude.{◌≡◌, ◌<◌, ◌≤◌, ◌^◌, ◌⊎◌, ℕ, List, length, Result, Ok, Err}
use Rattle.frames.specs.Bodies.{body_bytes, frame_bytes, most_body_bytes}
use Rattle.frames.specs.declared.Frame.{Frame}
use Rattle.wire.specs.declared.port.WireFault.{WireFault}
use Rattle.wire.specs.declared.port.WireFault.TheVariants.{NoMemory, TooLong}

-- the bytes of the frame if its body fits, else `TooLong`; `NoMemory` may replace either
abbrev pub Encodes : {X : Type 0} → (X → List ℕ) → Frame → Result X WireFault → Type 0
Encodes seen f (Ok x) = (length (body_bytes f) ≤ most_body_bytes) × (seen x ≡ frame_bytes f)
Encodes seen f (Err fault) =
    (fault ≡ NoMemory) ⊎ ((fault ≡ TooLong) × (most_body_bytes < length (body_bytes f)))
