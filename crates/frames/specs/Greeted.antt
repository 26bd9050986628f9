-- The served text of a program that answers a hello: the served text of `Serving`, and before it
-- the program's own hello where the stream begins with one.
use Rattle.std.specs.Io.KnownBytes.{Appends}
use Rattle.std.specs.Prelude.{ℕ, ◌≡◌, ◌<◌, ◌≤◌, if◌then◌else◌, List, [], ◌++◌, take}
use Rattle.std.specs.Prelude.{Option, Some, None, Result, Ok, Err}
use Rattle.model.specs.Meaning.{Meaning}
use Rattle.eventkey.specs.Writing.{TakesBeginning}
use Rattle.frames.specs.Cutting.{Cut}
use Rattle.frames.specs.Hellos.{agrees, hello_body, hello_cut, hello_frame, hello_length, hello_of}
use Rattle.frames.specs.Serving.{Lacks, Served, served}
use Rattle.frames.specs.Streams.{Finds}
use Rattle.frames.specs.declared.first_frame.First.{First}
use Rattle.frames.specs.declared.first_frame.First.TheVariants as first
use Rattle.frames.specs.declared.greeted.Ending.{Ending}
use Rattle.frames.specs.declared.greeted.Ending.TheVariants.{OtherModel, Replies}
use Rattle.frames.specs.declared.greeting.Hello.{Hello}
use Rattle.wire.specs.declared.port.WireFault.{WireFault}
use Rattle.wire.specs.declared.port.WireFault.TheVariants.{BadBody, BadKind, Io}
use Rattle.wire.specs.declared.port.WireFault.TheVariants.{NoMemory, TooLong, Truncated}

-- 1. The served text

-- what is written, and how it ends
pub record Greeted : Type 0 where
  pub text : List ℕ
  pub result : Result Ending WireFault

abbrev pub ended : Result ℕ WireFault → Result Ending WireFault
ended (Ok replies) = Ok (Replies replies)
ended (Err fault) = Err fault

abbrev pub without_hello : Served → Greeted
without_hello s = record { text = s.text; result = ended s.result }

-- a program answers by its own hello, and serves a run of the same simulation alone
abbrev pub answered : Hello → Hello → Served → Greeted
answered own asked s =
    if agrees own asked then record { text = hello_frame own ++ s.text; result = ended s.result }
    else record { text = hello_frame own; result = Ok (OtherModel asked) }

abbrev pub behind_hello : (List ℕ → Served) → Hello → List ℕ →
    Result (Option Hello) WireFault → Greeted
behind_hello next own rest (Ok (Some asked)) = answered own asked (next rest)
behind_hello next own rest (Ok None) = record { text = []; result = Ok (Replies 0) }
behind_hello next own rest (Err fault) = record { text = []; result = Err fault }

abbrev pub greeted_at : (List ℕ → Served) → Hello → List ℕ → Option (ℕ × List ℕ) → Greeted
greeted_at next own bytes (Some n) =
    behind_hello next own (hello_body n.0 n.1).rest (hello_body n.0 n.1).found
greeted_at next own bytes None = without_hello (next bytes)

-- one function of the program's own hello, its model, the limit, the turns at which memory is
-- refused, and the bytes
unfoldable pub greeted : Hello → Meaning → Lacks → ℕ → List ℕ → Greeted
greeted own m lacks limit bytes = greeted_at (served m lacks limit) own bytes (hello_length bytes)

-- 2. What a call returns and writes

abbrev pub EndsAs : Greeted → Option (List ℕ) → Option (List ℕ) → Result Ending WireFault → Type 0
EndsAs g old new (Err Io) = TakesBeginning old new g.text
EndsAs g old new (Err NoMemory) = TakesBeginning old new g.text
EndsAs g old new (Err Truncated) = (g.result ≡ Err Truncated) × Appends old new g.text
EndsAs g old new (Err TooLong) = (g.result ≡ Err TooLong) × Appends old new g.text
EndsAs g old new (Err BadKind) = (g.result ≡ Err BadKind) × Appends old new g.text
EndsAs g old new (Err BadBody) = (g.result ≡ Err BadBody) × Appends old new g.text
EndsAs g old new (Ok ending) = (g.result ≡ Ok ending) × Appends old new g.text

-- for some choice of the turns without memory
abbrev pub IsGreeted : Meaning → ℕ → ℕ → Option (List ℕ) → Option (List ℕ) →
    Result Ending WireFault → List ℕ → Type 0
IsGreeted m end limit old new result bytes =
    (lacks : Lacks) × EndsAs (greeted (hello_of m end) m lacks limit bytes) old new result

-- the same after a hello that was read
abbrev pub IsAnswered : Meaning → ℕ → ℕ → Hello → Option (List ℕ) → Option (List ℕ) →
    Result Ending WireFault → List ℕ → Type 0
IsAnswered m end limit asked old new result rest = (lacks : Lacks)
    × EndsAs (answered (hello_of m end) asked (served m lacks limit rest)) old new result

-- 3. What is read first

-- the bytes that were read, if they are no hello
pub record IsOther (head : List ℕ) (came : ℕ) (bytes rest : List ℕ) : Type 0 where
  pub whole : bytes ≡ take came head ++ rest
  pub none : hello_length bytes ≡ None
  pub end : came < 5 → rest ≡ []

-- these bytes begin with a hello, of which this holds
abbrev pub IsThere : List ℕ → (Cut Hello → Type 0) → Type 0
IsThere bytes P = (n : ℕ × List ℕ) × (hello_length bytes ≡ Some n) × P (hello_body n.0 n.1)

abbrev pub IsFirst : Result First WireFault → List ℕ → List ℕ → Type 0
IsFirst (Ok (first.Hello h)) bytes rest = IsThere bytes (λ c. Finds c (Ok (Some h)) rest)
IsFirst (Ok (first.Other head came)) bytes rest = IsOther head came bytes rest
IsFirst (Err Io) bytes rest = Unit {0}
IsFirst (Err NoMemory) bytes rest = Unit {0}
IsFirst (Err fault) bytes rest = IsThere bytes (λ c. c.found ≡ Err fault)

-- at most five bytes were read to see that there is no hello
abbrev pub IsShort : First → Type 0
IsShort (first.Hello h) = Unit {0}
IsShort (first.Other head came) = came ≤ 5

-- the same for a body of `n` bytes
abbrev pub IsBodyRead : ℕ → Result Hello WireFault → List ℕ → List ℕ → Type 0
IsBodyRead n (Ok h) bytes rest = Finds (hello_body n bytes) (Ok (Some h)) rest
IsBodyRead n (Err Io) bytes rest = Unit {0}
IsBodyRead n (Err NoMemory) bytes rest = Unit {0}
IsBodyRead n (Err fault) bytes rest = (hello_body n bytes).found ≡ Err fault

-- what is first in a stream that is to begin with a hello
abbrev pub IsHeard : Result (Option Hello) WireFault → List ℕ → List ℕ → Type 0
IsHeard (Err Io) bytes rest = Unit {0}
IsHeard (Err NoMemory) bytes rest = Unit {0}
IsHeard (Err fault) bytes rest = (hello_cut bytes).found ≡ Err fault
IsHeard (Ok found) bytes rest = Finds (hello_cut bytes) (Ok found) rest
