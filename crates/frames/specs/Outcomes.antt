-- What a node's loop returns, writes and reads, if contracts see the bytes of its reader and
-- writer: the served text; or, if the reader, the writer or an allocation failed at a frame, a
-- prefix of that text, with nothing read after that frame.
use Rattle.std.specs.Io.KnownBytes.{Appends}
use Rattle.std.specs.Prelude.{ℕ, Bool, true, false, ◌≡◌, ◌<◌, ◌⊎◌, List, ◌++◌, Option, Some, None}
use Rattle.std.specs.Prelude.{Result, Ok, Err}
use Rattle.model.specs.Meaning.{Meaning}
use Rattle.node.specs.Handling.{Node}
use Rattle.frames.specs.Streams.{IsFront, IsWithin}
use Rattle.frames.specs.Serving.{Lacks, Served, Turn, first_turn, later, next_turn, served}
use Rattle.frames.specs.Serving.{served_from}
use Rattle.eventkey.specs.Writing.{TakesBeginning}
use Rattle.wire.specs.declared.port.WireFault.{WireFault}
use Rattle.wire.specs.declared.port.WireFault.TheVariants.{BadBody, BadKind, Io}
use Rattle.wire.specs.declared.port.WireFault.TheVariants.{NoMemory, TooLong, Truncated}

-- this is the result, this text was written, and these bytes are left
abbrev pub Leaves : {X : Type 0} → X → X → List ℕ → List ℕ → List ℕ → Option (List ℕ) →
    Option (List ℕ) → Type 0
Leaves result is text rest left old new = (is ≡ result) × Appends old new text × (left ≡ rest)

-- The loop stopped at a parcel: it answered all parcels before it, wrote their replies whole, and
-- read nothing after it.
pub record StopsFrom (m : Meaning) (lacks : Lacks) (limit : ℕ) (n : Node)
    (old new : Option (List ℕ)) (bytes rest : List ℕ) : Type 0 where
  pub count : ℕ
  pub few : count < limit
  pub answered : (served_from m lacks count n bytes).result ≡ Ok count
  pub written : (more : List ℕ) × Appends old new ((served_from m lacks count n bytes).text ++ more)
  pub within : IsWithin (served_from m lacks count n bytes).rest rest

-- the same, after a load that made a node
abbrev pub StopsBehind : Meaning → Lacks → ℕ → Turn → Option (List ℕ) → Option (List ℕ) → List ℕ →
    Type 0
StopsBehind m lacks limit load old new rest =
    (n : Node) × (load.result ≡ Ok (Some n)) × StopsFrom m lacks limit n old new load.rest rest

-- the loop stopped at the load, or at a parcel after it
abbrev pub Stops : Meaning → Lacks → ℕ → Option (List ℕ) → Option (List ℕ) → List ℕ → List ℕ →
    Type 0
Stops m lacks limit old new bytes rest =
    IsWithin bytes rest
    ⊎ StopsBehind m (later lacks) limit (first_turn (lacks 0) m.lps bytes) old new rest

-- the result and what was written, by the served text; and where the call stopped, if it stopped
-- part of the way
abbrev pub HasOutcome : Served → Type 0 → List ℕ → List ℕ → Option (List ℕ) → Option (List ℕ) →
    Result ℕ WireFault → Type 0
HasOutcome s stops bytes rest old new (Err Io) =
    TakesBeginning old new s.text × IsFront bytes rest × stops
HasOutcome s stops bytes rest old new (Err NoMemory) =
    TakesBeginning old new s.text × IsFront bytes rest × stops
HasOutcome s stops bytes rest old new (Err Truncated) =
    Leaves (Err Truncated) s.result s.text s.rest rest old new
HasOutcome s stops bytes rest old new (Err TooLong) =
    Leaves (Err TooLong) s.result s.text s.rest rest old new
HasOutcome s stops bytes rest old new (Err BadKind) =
    Leaves (Err BadKind) s.result s.text s.rest rest old new
HasOutcome s stops bytes rest old new (Err BadBody) =
    Leaves (Err BadBody) s.result s.text s.rest rest old new
HasOutcome s stops bytes rest old new (Ok count) = Leaves (Ok count) s.result s.text s.rest rest old new

-- for some choice of the turns without memory
abbrev pub IsServed : Meaning → ℕ → Option (List ℕ) → Option (List ℕ) → Result ℕ WireFault →
    List ℕ → List ℕ → Type 0
IsServed m limit old new result bytes rest =
    (lacks : Lacks)
    × HasOutcome (served m lacks limit bytes) (Stops m lacks limit old new bytes rest) bytes rest old new
    result

abbrev pub IsServedFrom : Meaning → ℕ → Node → Option (List ℕ) → Option (List ℕ) →
    Result ℕ WireFault → List ℕ → List ℕ → Type 0
IsServedFrom m limit n old new result bytes rest =
    (lacks : Lacks)
    × HasOutcome (served_from m lacks limit n bytes) (StopsFrom m lacks limit n old new bytes rest) bytes
    rest old new result

-- the same for one turn of a node; the loop goes on if the result is true
abbrev pub TurnHasOutcome : Turn → List ℕ → Option (List ℕ) → Option (List ℕ) →
    Result Bool WireFault → Node → Type 0
TurnHasOutcome t rest old new (Err Io) n = TakesBeginning old new t.text
TurnHasOutcome t rest old new (Err NoMemory) n = TakesBeginning old new t.text
TurnHasOutcome t rest old new (Err Truncated) n =
    Leaves (Err Truncated) t.result t.text t.rest rest old new
TurnHasOutcome t rest old new (Err TooLong) n = Leaves (Err TooLong) t.result t.text t.rest rest old new
TurnHasOutcome t rest old new (Err BadKind) n = Leaves (Err BadKind) t.result t.text t.rest rest old new
TurnHasOutcome t rest old new (Err BadBody) n = Leaves (Err BadBody) t.result t.text t.rest rest old new
TurnHasOutcome t rest old new (Ok true) n = Leaves (Ok (Some n)) t.result t.text t.rest rest old new
TurnHasOutcome t rest old new (Ok false) n = Leaves (Ok None) t.result t.text t.rest rest old new

pub record IsTurn (m : Meaning) (n n' : Node) (old new : Option (List ℕ))
    (result : Result Bool WireFault) (bytes rest : List ℕ) : Type 0 where
  pub lacks : Bool
  pub within : IsWithin bytes rest
  pub outcome : TurnHasOutcome (next_turn lacks m n bytes) rest old new result n'
