-- What calls read from a reader whose bytes contracts see.
use Rattle.std.specs.Io.KnownBytes.{Consumes, IsAtEnd}
use Rattle.std.specs.Prelude.{◌≡◌, ◌<◌, ◌≤◌, ◌⊎◌, ℕ, List, ◌++◌, length}
use Rattle.std.specs.Prelude.{Option, Some, None, Result, Ok, Err}
use Rattle.frames.specs.Cutting.{Cut, cut}
use Rattle.wire.specs.declared.port.WireFault.{WireFault}
use Rattle.wire.specs.declared.port.WireFault.TheVariants.{BadBody, BadKind, Io}
use Rattle.wire.specs.declared.port.WireFault.TheVariants.{NoMemory, TooLong, Truncated}

-- a statement about the bytes that a reader had and those left, if contracts see them
abbrev pub OnBytes : Option (List ℕ) → Option (List ℕ) → (List ℕ → List ℕ → Type 0) → Type 0
OnBytes None new P = Unit {0}
OnBytes (Some bytes) None P = ⊥
OnBytes (Some bytes) (Some rest) P = P bytes rest

-- a prefix of the bytes was taken
abbrev pub IsFront : List ℕ → List ℕ → Type 0
IsFront bytes rest = (taken : List ℕ) × (bytes ≡ taken ++ rest)

-- A prefix of the bytes was taken, and nothing after the first frame. If the stated length is too
-- long, at most its four bytes were taken; if the kind is unknown, at most the length and the kind;
-- if the input ends within the frame, any bytes.
pub record IsWithin (bytes rest : List ℕ) : Type 0 where
  pub front : IsFront bytes rest
  pub behind : IsFront rest (cut bytes).rest

-- this was found, and these bytes are left
abbrev pub Finds : {X : Type 0} → Cut X → Result (Option X) WireFault → List ℕ → Type 0
Finds c found rest = c ≡ record { found = found; rest = rest }

-- The result of a call, with the bytes that the reader had and those left: what the cut gives; or
-- the reader or an allocation failed part of the way, and nothing after the frame was read.
abbrev pub IsCutBy : {X : Type 0} → (List ℕ → Cut X) → Result (Option X) WireFault →
    List ℕ → List ℕ → Type 0
IsCutBy first (Err Io) bytes rest = IsWithin bytes rest
IsCutBy first (Err NoMemory) bytes rest = IsWithin bytes rest
IsCutBy first (Err Truncated) bytes rest = Finds (first bytes) (Err Truncated) rest
IsCutBy first (Err TooLong) bytes rest = Finds (first bytes) (Err TooLong) rest
IsCutBy first (Err BadKind) bytes rest = Finds (first bytes) (Err BadKind) rest
IsCutBy first (Err BadBody) bytes rest = Finds (first bytes) (Err BadBody) rest
IsCutBy first (Ok found) bytes rest = Finds (first bytes) (Ok found) rest

-- the call stopped part of the way: the reader, the writer or an allocation failed
abbrev pub IsHalfway : WireFault → Type 0
IsHalfway fault = (fault ≡ Io) ⊎ (fault ≡ NoMemory)

-- the reader gave at most `n` bytes
abbrev pub GivesUpTo : ℕ → Option (List ℕ) → Option (List ℕ) → Type 0
GivesUpTo n old new = (taken : List ℕ) × (length taken ≤ n) × Consumes old new taken

-- the reader gave fewer than `n` bytes, and has no more
abbrev pub GivesFewer : ℕ → Option (List ℕ) → Option (List ℕ) → Type 0
GivesFewer n old new =
    (taken : List ℕ) × (length taken < n) × Consumes old new taken × IsAtEnd new

-- The reader gave `n` bytes, or it ended before; or the call stopped part of the way, and took at
-- most `n`.
abbrev pub Comes : {X : Type 0} → (X → List ℕ) → ℕ → Option (List ℕ) → Option (List ℕ) →
    Result (Option X) WireFault → Type 0
Comes seen n old new (Ok (Some x)) = (length (seen x) ≡ n) × Consumes old new (seen x)
Comes seen n old new (Ok None) = GivesFewer n old new
Comes seen n old new (Err fault) = IsHalfway fault × GivesUpTo n old new
