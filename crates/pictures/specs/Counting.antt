-- What was counted of a run so far, where the simulation forgets its events.
use Rattle.std.specs.List.{AllByRecursion as Every}
use Rattle.std.specs.List.Sorted.{IsPermutation}
use Rattle.std.specs.Prelude.{ℕ, ◌≡◌, ◌<◌, List, [], ◌∷◌, ◌++◌, get_or, length, map, set}
use Rattle.eventkey.specs.Message.{Message}
use Rattle.model.specs.Meaning.{Meaning}
use Rattle.model.specs.Runner.{IsRun}
use Rattle.model.specs.World.{World, opening}
use Rattle.pictures.specs.Delays.{AreCounted}
use Rattle.pictures.specs.Figures.{delay_of, handled_by}
use Rattle.pictures.specs.Run.{Run, sending_times, sends_of}
use Rattle.pictures.specs.Senders.{AreSenders, HaveTime}
use Rattle.pictures.specs.Stepping.{with_log}
use Rattle.pictures.specs.declared.counted.Counts.{Counts}
use Rattle.pictures.specs.declared.delays.Delays.{Delays}

-- the states after these events, from these states on
abbrev pub states_after : Meaning → List (List ℕ) → List Message → List (List ℕ)
states_after m states [] = states
states_after m states (x ∷ xs) =
    states_after m (set states x.to (m.next_state x.to (get_or states x.to []) x)) xs

-- The simulation of a model has come to a world by this run, of whose events the world may have
-- forgotten some.
pub record HasRun (m : Meaning) (bound : ℕ) (r : Run) (w : World) : Type 0 where
  pub passed : IsRun m bound (opening m) (with_log r.events w)
  pub first : r.first ≡ (opening m).numbers
  pub sends : r.sends ≡ sends_of m (opening m).states r.events
  pub pending : r.pending ≡ w.pending
  pub states : states_after m (opening m).states r.events ≡ w.states
  pub sent : (lp : ℕ) → get_or w.numbers lp 0 ≡ length (sending_times r lp)

-- a later run, in which each process has sent what it sent before, and may have sent more
abbrev pub GoesOn : Run → Run → Type 0
GoesOn r later =
    (lp : ℕ) → (more : List ℕ) × (sending_times later lp ≡ sending_times r lp ++ more)

-- The delays of these events are counted, but for some that were handled before their numbers were
-- sent. It is so in each later run.
abbrev pub HasDelays : Run → List Message → Delays → List Message → Type 0
HasDelays r events d unsent = (later : Run) → GoesOn r later → (delays : List ℕ)
    × AreCounted delays d
    × IsPermutation (map (delay_of later) events) (delays ++ map (delay_of later) unsent)

-- what was counted of a run
pub record HasCounted (r : Run) (c : Counts) : Type 0 where
  pub sends : length r.sends ≡ length r.events
  pub senders : AreSenders r c.senders.items
  pub long : length c.handled.items ≡ length r.first
  pub handled : (lp : ℕ) → lp < length r.first → get_or c.handled.items lp 0 ≡ handled_by r lp
  pub delays : HasDelays r r.events c.delays c.unsent.items
  pub unsent : Every (HaveTime r c.senders.items) c.unsent.items

-- what was counted of the simulation up to a world
pub record IsCounted (m : Meaning) (bound : ℕ) (w : World) (c : Counts) (count : ℕ)
    : Type 0 where
  pub run : Run
  pub has : HasRun m bound run w
  pub counted : HasCounted run c
  pub pending : Every (HaveTime run c.senders.items) w.pending
  pub events : count ≡ length run.events
