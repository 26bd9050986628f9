-- What a node answers to the hello of a run.
use Rattle.std.specs.Prelude.{◌≡◌, ◌≢◌, ℕ, List, Some, None, Result, Ok, Err}
use Rattle.frames.specs.Hellos.{hello_cut}
use Rattle.frames.specs.Streams.{Finds}
use Rattle.frames.specs.declared.greeting.Hello.{Hello}
use Rattle.wire.specs.declared.port.PortFault.{PortFault}
use Rattle.wire.specs.declared.port.PortFault.TheVariants.{Closed, Wire}
use Rattle.wire.specs.declared.port.WireFault.TheVariants as wire
use Rattle.frames.specs.declared.meeting.Heard.{Heard}
use Rattle.frames.specs.declared.meeting.Heard.TheVariants.{Other, Same}

-- The result, with the bytes that the stream had and those left: the hello that is first in the
-- stream decides, and all of it was read, and nothing after it. A fault says what is there in its
-- place.
abbrev pub IsHeardFrom : Hello → Result Heard PortFault → List ℕ → List ℕ → Type 0
IsHeardFrom own (Ok Same) bytes rest = Finds (hello_cut bytes) (Ok (Some own)) rest
IsHeardFrom own (Ok (Other h)) bytes rest = Finds (hello_cut bytes) (Ok (Some h)) rest × (own ≢ h)
IsHeardFrom own (Err Closed) bytes rest = (hello_cut bytes).found ≡ Ok None
IsHeardFrom own (Err (Wire wire.Io)) bytes rest = Unit {0}
IsHeardFrom own (Err (Wire wire.NoMemory)) bytes rest = Unit {0}
IsHeardFrom own (Err (Wire fault)) bytes rest = (hello_cut bytes).found ≡ Err fault
IsHeardFrom own (Err fault) bytes rest = ⊥
