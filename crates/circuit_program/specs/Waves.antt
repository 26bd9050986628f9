-- What the command `wave` prints.
use Rattle.std.specs.Prelude.{◌≡◌, ◌≤◌, ◌⊎◌, ℕ, List, None, Option, Some, map, string_bytes}
use Rattle.segments.specs.Archiving.{IsBegunAt, IsOriginOn}
use Rattle.circuit.specs.Circuit.{circuit_meaning, netlist_of}
use Rattle.circuit.specs.CircuitFile.{IsCircuitTable}
use Rattle.circuit.specs.Wave.{first_states, wave_text}
use Rattle.circuit.specs.declared.circuit.Circuit.{Circuit}
use Rattle.model.specs.Meaning.{Meaning}
use Rattle.model.specs.Origins.{continued}
use Rattle.model.specs.World.{IsUpto, World}
use Rattle.model.specs.declared.origin.Origin.{Origin}
use Rattle.runs.specs.Commands.{RepresentsUpto}
use Rattle.recovery.specs.Replay.{IsReplayedTo}
use Rattle.recovery.specs.Represents.{IsGenuine}
use Rattle.texts.specs.ModelFile.{IsModelFile}

abbrev pub meaning_of : Circuit → Meaning
meaning_of c = circuit_meaning (netlist_of c.gates.items c.wires.items c.digest)

-- The simulation begins as its model does, at 0, and is run up to the time of this world.
pub record IsWholeRun (m : Meaning) (end : ℕ) (o : Option Origin) (from : ℕ) (w : World) :
    Type 0 where
  pub origin : o ≡ None
  pub start : from ≡ 0
  pub upto : IsUpto m end w.time w

-- the time from which the simulation on an image goes on, if it begins with this origin; 0 if it
-- begins as its model does
abbrev pub IsBegunFrom : List (List ℕ) → Option Origin → ℕ → Type 0
IsBegunFrom image None from = from ≡ 0
IsBegunFrom image (Some o) from = IsBegunAt image from

-- The image of some disk begins with this origin, or with none, and its simulation goes on from
-- this time. It is replayed to this world, so that the log has all events from there on. A genuine
-- image represents the world.
pub record IsOnDisk (m : Meaning) (end : ℕ) (o : Option Origin) (from : ℕ) (w : World) :
    Type 0 where
  pub image : List (List ℕ)
  pub begins : IsOriginOn m.lps image o
  pub goes_on : IsBegunFrom image o from
  pub replayed : IsReplayedTo (continued m o) end image w
  pub genuine : IsGenuine (continued m o) end image → RepresentsUpto (continued m o) end image w

-- The wave of a circuit up to the time of a world: the sequential simulation up to there, or the
-- world committed on a disk. The wave of a disk that begins with an origin begins with the values
-- of the origin's states.
pub record IsWaveOf (c : Circuit) (end : ℕ) (text : List ℕ) : Type 0 where
  pub origin : Option Origin
  pub from : ℕ
  pub world : World
  pub simulated : IsWholeRun (meaning_of c) end origin from world
      ⊎ IsOnDisk (meaning_of c) end origin from world
  pub within : world.time ≤ end
  pub is : text ≡ wave_text (netlist_of c.gates.items c.wires.items c.digest)
      (map string_bytes c.names.items)
      (first_states (netlist_of c.gates.items c.wires.items c.digest) origin) from world.time
      world.log

-- the wave of the circuit of some model file
pub record IsWave (text : List ℕ) : Type 0 where
  pub source : List ℕ
  pub circuit : Circuit
  pub end : ℕ
  pub file : IsModelFile IsCircuitTable source circuit end
  pub wave : IsWaveOf circuit end text
