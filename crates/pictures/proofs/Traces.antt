-- Properties of the run of a model.
use Rattle.std.specs.List.{AllByRecursion as Every}
use Rattle.std.proofs.Common.{◌≡◌, ℕ, ◌≤◌, ◌^◌, List, [], ◌∷◌, length, max, min, refl, ap, ◌∙◌, sym, subst, suc, arith, set, get_or}
use Rattle.eventkey.specs.Message.{Message}
use Rattle.model.specs.Meaning.{IsAddressed, IsLawful, Meaning, most_lps}
use Rattle.model.specs.Runner.{IsReached, Simulation}
use Rattle.model.specs.World.{IsUpto, World, opening}
use Rattle.model.proofs.Steps.{IsUpto_IsReached, opening_is_upto}
use Rattle.model.proofs.Worlds.{opening_IsWorld}
use Rattle.pictures.specs.Inside.{IsWholeRun}
use Rattle.pictures.specs.Run.{Run, sends_of}

pub length-sends_of : (m : Meaning) (states : List (List ℕ)) (log : List Message) → length (sends_of m states log) ≡ length log
length-sends_of m states [] = refl
length-sends_of m states (x ∷ xs) = ap suc (length-sends_of m (set states x.to (m.next_state x.to (get_or states x.to []) x)) xs)

-- the simulation reaches the world to which the code runs from the opening
pub run_reached : (m : Meaning) (end to : ℕ) (s : Simulation) (w : World) → IsLawful m → end ≤ 2 ^ 40 → s ≡ record { end = end; world = opening m }
    → (IsUpto m s.end s.world.time s.world → IsUpto m s.end (max s.world.time (min to s.end)) w) → IsReached m.lps w
run_reached m end to s w law short is runs =
    let runs' = rw is at runs in
    IsUpto_IsReached m end (max 0 (min to end)) w law short (runs' (opening_is_upto m end))

pub run_early : (m : Meaning) (end to time : ℕ) (s : Simulation) (w : World) → end ≤ 2 ^ 40 → s ≡ record { end = end; world = opening m } → time ≡ w.time
    → (IsUpto m s.end s.world.time s.world → IsUpto m s.end (max s.world.time (min to s.end)) w) → time ≤ 2 ^ 40
run_early m end to time s w short is time_is runs =
    let runs' = rw is at runs in
    let at = (runs' (opening_is_upto m end)).time in
    omega (arith, time_is, at)

pub run_addressed : (m : Meaning) (w : World) (events : List Message) → IsReached m.lps w → events ≡ w.log → Every (IsAddressed m.lps) events
run_addressed m w events is e = subst (Every (IsAddressed m.lps)) (sym e) is.logged

pub length-opening : (m : Meaning) → IsLawful m → (first : List ℕ) → first ≡ (opening m).numbers → length first ≡ m.lps
length-opening m law first e = ap length e ∙ (opening_IsWorld m law).numbers

pub run_whole : (m : Meaning) (w : World) (r : Run) → IsLawful m → IsReached m.lps w → r.time ≤ 2 ^ 40 → r.events ≡ w.log → r.pending ≡ w.pending → r.first ≡ (opening m).numbers
    → (states : List (List ℕ)) → r.sends ≡ sends_of m states r.events → IsWholeRun r
run_whole m w r law is early events pending first states sends =
    let lps = length-opening m law r.first first in
    record {
      time = early;
      few = subst (λ n. n ≤ most_lps) (sym lps) law.few_lps;
      sends = ap length sends ∙ length-sends_of m states r.events;
      events = subst (λ n. Every (IsAddressed n) r.events) (sym lps) (run_addressed m w r.events is events);
      pending = subst (λ n. Every (IsAddressed n) r.pending) (sym lps) (subst (Every (IsAddressed m.lps)) (sym pending) is.world.addressed);
    }
