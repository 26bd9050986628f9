-- Laws of the sequential simulation up to a time, and of each world that it reaches.
use Rattle.std.specs.Prelude.{◌≡◌, ℕ, ◌≤◌, ◌^◌, max, List, ◌++◌}
use Rattle.eventkey.specs.Message.{Message}
use Rattle.model.specs.Meaning.{IsLawful, Meaning}
use Rattle.model.specs.Runner.{IsReached, RunsTo}
use Rattle.model.specs.World.{IsUpto, Reaches, World, at_time, opening}

-- the simulation up to a time is one world
abbrev pub UptoIsOne : Type 0
UptoIsOne = (m : Meaning) (end g : ℕ) (v w : World) → IsUpto m end g v → IsUpto m end g w → v ≡ w

-- the log of the simulation up to a time is the beginning of the log of any later one
abbrev pub UptoGoesOn : Type 0
UptoGoesOn = (m : Meaning) (end g1 g2 : ℕ) (v w : World) →
    g1 ≤ g2 → IsUpto m end g1 v → IsUpto m end g2 w →
    (more : List Message) × (w.log ≡ v.log ++ more)

-- steps lead from the simulation up to a time to any later one
abbrev pub UptoIsReachedFrom : Type 0
UptoIsReachedFrom = (m : Meaning) (end g1 g2 : ℕ) (v w : World) →
    g1 ≤ g2 → IsUpto m end g1 v → IsUpto m end g2 w →
    (steps : ℕ) × Reaches m end steps (at_time 0 v) (at_time 0 w)

-- the opening world is the simulation up to 0
abbrev pub OpeningIsUpto : Type 0
OpeningIsUpto = (m : Meaning) (end : ℕ) → IsUpto m end 0 (opening m)

-- a run from the simulation up to g leads to the simulation up to the later of g and its bound
abbrev pub RunsAreUpto : Type 0
RunsAreUpto = (m : Meaning) (end bound g : ℕ) (old new : World) →
    IsLawful m → end ≤ 2 ^ 40 → bound ≤ end → IsUpto m end g old → RunsTo m bound old new →
    IsUpto m end (max g bound) new

-- each world that steps reach from the opening world is in order
abbrev pub EachWorldIsReached : Type 0
EachWorldIsReached = (m : Meaning) (end steps : ℕ) (w : World) →
    IsLawful m → end ≤ 2 ^ 40 → Reaches m end steps (opening m) w → IsReached m.lps w
