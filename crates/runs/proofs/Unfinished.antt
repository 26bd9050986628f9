-- Moves of a session that was opened, from the system state of its disk on.
use Rattle.std.proofs.Common.{◌≡◌, ◌<◌, ℕ, List, Some, map, refl, subst}
use Rattle.coordinator.specs.Drives.{StepsAreMade}
use Rattle.coordinator.specs.Session.{Running, system_of}
use Rattle.runs.specs.Driver.{AreRoundsOfRun, IsUnfinished, Made, answers_of, moves_of, transits_of}
use Rattle.runs.specs.declared.rounds.Plan.{Plan}
use Rattle.model.specs.Meaning.{Meaning}
use Rattle.model.specs.World.{World}
use Rattle.gvt.specs.Moves.{moves_made}
use Rattle.gvt.specs.System.{System, opened}
use Rattle.recovery.specs.Replay.{IsReplayedTo}

pub unfinished : (m : Meaning) (end : ℕ) (plan : Plan) (image : List (List ℕ)) (first : World) (begun made : Running) (steps : List Made) → IsReplayedTo m end image first → begun.meaning ≡ m → begun.end ≡ end
    → system_of begun ≡ opened m.lps plan.nodes first → AreRoundsOfRun plan end plan.rounds plan.rounds steps → StepsAreMade (moves_of steps) begun made
    → map (λ (k : Made). Some k.answer) steps ≡ answers_of begun.meaning begun.end (moves_of steps) (system_of begun) → map (λ (k : Made). k.transit) steps ≡ transits_of begun.meaning begun.end (moves_of steps) (system_of begun) → made.front.time < end → IsUnfinished m end plan image
unfinished m end plan image first begun made steps replayed model_is end_is system_is are by answers transits early =
    let moved : moves_made m end (moves_of steps) (opened m.lps plan.nodes first) ≡ Some (system_of made) =
    subst (λ (p : System). moves_made m end (moves_of steps) p ≡ Some (system_of made)) system_is
    (subst (λ (e : ℕ). moves_made m e (moves_of steps) (system_of begun) ≡ Some (system_of made)) end_is
    (subst (λ (n : Meaning). moves_made n begun.end (moves_of steps) (system_of begun) ≡ Some (system_of made)) model_is by.moves_are)) in
    let answered : map (λ (k : Made). Some k.answer) steps ≡ answers_of m end (moves_of steps) (opened m.lps plan.nodes first) =
    subst (λ (p : System). map (λ (k : Made). Some k.answer) steps ≡ answers_of m end (moves_of steps) p) system_is
    (subst (λ (e : ℕ). map (λ (k : Made). Some k.answer) steps ≡ answers_of m e (moves_of steps) (system_of begun)) end_is
    (subst (λ (n : Meaning). map (λ (k : Made). Some k.answer) steps ≡ answers_of n begun.end (moves_of steps) (system_of begun)) model_is answers)) in
    let carried : map (λ (k : Made). k.transit) steps ≡ transits_of m end (moves_of steps) (opened m.lps plan.nodes first) =
    subst (λ (p : System). map (λ (k : Made). k.transit) steps ≡ transits_of m end (moves_of steps) p) system_is
    (subst (λ (e : ℕ). map (λ (k : Made). k.transit) steps ≡ transits_of m e (moves_of steps) (system_of begun)) end_is
    (subst (λ (n : Meaning). map (λ (k : Made). k.transit) steps ≡ transits_of n begun.end (moves_of steps) (system_of begun)) model_is transits)) in
    record {
      made = steps;
      rounds_are = are;
      front = made.front;
      driven = record { first = first; replayed = replayed; last = system_of made; moved = moved; front_is = refl };
      answers_are = answered;
      transits_are = carried;
      early = early;
    }
