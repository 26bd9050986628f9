-- What the command prints.
use Rattle.std.specs.Prelude.{◌≡◌, ◌≤◌, ◌⊎◌, ℕ, List, Option, Result, Ok, Err, OnErr, OnOk}
use Rattle.std.specs.Io.KnownBytes.{Appends}
use Rattle.std.proofs.Common.{ap, arith, inr, subst, sym, ◌∙◌}
use Rattle.eventkey.specs.Writing.{TakesBeginning}
use Rattle.model.specs.Meaning.{Meaning}
use Rattle.model.specs.Origins.{continued}
use Rattle.model.specs.World.{IsUpto, World}
use Rattle.model.specs.declared.origin.Origin.{Origin}
use Rattle.circuit.specs.declared.circuit.Circuit.{Circuit}
use Rattle.runs.specs.Commands.{RepresentsUpto}
use Rattle.recovery.specs.Replay.{IsReplayedTo}
use Rattle.recovery.specs.Represents.{IsGenuine}
use Rattle.segments.specs.Archiving.{IsOriginOn}
use Rattle.views.specs.Views.{Begins, Prints}
use Rattle.circuit_program.specs.Waves.{IsBegunFrom, IsOnDisk, IsWave, meaning_of}

module _ {T E : Type 0} (text : List ℕ) (is : IsWave text) (old new : Option (List ℕ)) where
  pub printed : (r : Result T E) → OnOk r (Appends old new text) → OnOk r (Prints IsWave old new)
  printed (Ok x) h = (text, is, h)
  printed (Err e) h = tt

  pub begun : (A : Type 0) (r : Result T E) → OnErr r (TakesBeginning old new text) → OnErr r (A ⊎ Begins IsWave old new)
  begun A (Ok x) h = tt
  begun A (Err e) h = inr (text, is, h)

-- a simulation up to its end has reached that time
pub at_its_time : (m : Meaning) (end : ℕ) (w : World) → IsUpto m end end w → IsUpto m end w.time w × (w.time ≤ end)
at_its_time m end w h = (subst (λ t. IsUpto m end t w) (sym h.time) h, omega (arith, h.time))

-- the simulation of a circuit on a disk, if what was recovered is that of an equal one
pub on_disk : (c d : Circuit) (o p : Option Origin) (end from : ℕ) (image : List (List ℕ)) (w : World) → c ≡ d → o ≡ p → IsOriginOn (meaning_of d).lps image p → IsBegunFrom image p from
    → IsReplayedTo (continued (meaning_of c) o) end image w → (IsGenuine (continued (meaning_of c) o) end image → RepresentsUpto (continued (meaning_of c) o) end image w)
    → IsOnDisk (meaning_of d) end p from w
on_disk c d o p end from image w e f begins goes_on replayed genuine =
    let same : continued (meaning_of c) o ≡ continued (meaning_of d) p = ap (λ x. continued (meaning_of x) o) e ∙ ap (λ q. continued (meaning_of d) q) f in
    record {
      image = image;
      begins = begins;
      goes_on = goes_on;
      replayed = subst (λ m. IsReplayedTo m end image w) same replayed;
      genuine = subst (λ m. IsGenuine m end image → RepresentsUpto m end image w) same genuine;
    }
