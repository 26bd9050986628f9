-- A whole session: its opening, its steps, and what it leaves.
use Rattle.std.proofs.Common.{List, None, Some, ap, arith, length, map, take, inl, inr, refl, subst, sym, ℕ, ◌≡◌, ◌≤◌, ◌∙◌}
use Rattle.std.proofs.lemmas.Bool.{cases_Bool}
use Rattle.std.proofs.lemmas.List.{take_all}
use Rattle.disk.specs.Disk.{DiskState, OnlyLooks}
use Rattle.model.specs.Meaning.{Meaning}
use Rattle.model.specs.Runner.{Simulation}
use Rattle.model.specs.World.{IsUpto, World}
use Rattle.gvt.proofs.Runs.{fronts_open, moves_made_are_sound}
use Rattle.gvt.specs.Moves.{Move, moves_made}
use Rattle.gvt.specs.System.{System, opened}
use Rattle.gvt.specs.Sound.{IsSystem}
use Rattle.recovery.specs.Replay.{IsReplayedTo, in_force}
use Rattle.recovery.proofs.Crashes.{goes-under, looked-under}
use Rattle.commitlog.specs.Log.{Opened}
use Rattle.recovery.specs.Crashes.{IsWritten, KeepsRecovery, KeepsUnderItsEnd, RecoversUnderItsEnd}
use Rattle.recovery.specs.Represents.{Recovers}
use Rattle.coordinator.specs.Drives.{IsStopped, StepsAreMade}
use Rattle.coordinator.specs.Headline.{IsResumed}
use Rattle.coordinator.specs.Session.{IsConsistentSession, Running, Session, system_of}
use Rattle.coordinator.specs.Steps.{leaves_all, move_of}
use Rattle.coordinator.specs.declared.DriveFault.{DriveFault}
use Rattle.wire.specs.Port.{PortState}
use Rattle.coordinator.specs.declared.Step.{Step}

-- a stopped session has the front after the steps that were made
pub stopped-front : {M P D : Type 0} (meaning : M → Meaning) (state : P → PortState) (disk : D → DiskState) (steps : List Step) (old new : Session M P D) (stop : DriveFault) (stopped : IsStopped meaning state disk steps old new stop)
    → new.front ≡ stopped.made.front
stopped-front meaning state disk steps old new stop stopped = elim (cases_Bool (leaves_all stop.fault)) [
  | inl leaves ↦ ap (λ s. s.front) (stopped.refused.unchanged leaves)
  | inr spends ↦ (stopped.refused.spends spends).0
]

-- what holds of a disk by a session's own model and end
pub driven-on : {D : Type 0} (m' m : Meaning) (end' end : ℕ) (first last : World) (log : Opened D) (mid new : DiskState) → m' ≡ m → end' ≡ end
    → (IsWritten m' end' first log → Recovers m' end' first.time mid → KeepsRecovery m' end' first.time last.time mid new)
    → IsWritten m end first log → Recovers m end first.time mid → KeepsRecovery m end first.time last.time mid new
driven-on m' m end' end first last log mid new model_is end_is driven =
    subst (λ (n : Meaning). IsWritten n end first log → Recovers n end first.time mid → KeepsRecovery n end first.time last.time mid new) model_is
    (subst (λ (e : ℕ). IsWritten m' e first log → Recovers m' e first.time mid → KeepsRecovery m' e first.time last.time mid new) end_is driven)

-- the same for the session's opening
pub kept-on : (m' m : Meaning) (end' end a now : ℕ) (old mid : DiskState) → m' ≡ m → end' ≡ end → (RecoversUnderItsEnd m' a old → KeepsUnderItsEnd m' a now old mid) → (RecoversUnderItsEnd m' a old → Recovers m' end' now mid)
    → RecoversUnderItsEnd m a old → KeepsUnderItsEnd m a now old mid × Recovers m end now mid
kept-on m' m end' end a now old mid model_is end_is keeps recovers =
    subst (λ (n : Meaning). RecoversUnderItsEnd n a old → KeepsUnderItsEnd n a now old mid × Recovers n end now mid) model_is
    (subst (λ (e : ℕ). RecoversUnderItsEnd m' a old → KeepsUnderItsEnd m' a now old mid × Recovers m' e now mid) end_is (λ r. (keeps r, recovers r)))

-- all steps were made
pub made-all : (done : ℕ) (steps : List Step) (old new : Running) → done ≡ length steps → StepsAreMade (map move_of steps) old new → StepsAreMade (map move_of (take done steps)) old new
made-all done steps old new is made = subst (λ (ss : List Step). StepsAreMade (map move_of ss) old new) (sym (ap (λ (n : ℕ). take n steps) is ∙ take_all (length steps) steps (omega arith))) made

module _ (m : Meaning) (end nodes : ℕ) (v first : World) (disk mid : DiskState) (replayed : IsReplayedTo m end disk.reads first) (opened_kept : RecoversUnderItsEnd m v.time disk → KeepsUnderItsEnd m v.time first.time disk mid × Recovers m end first.time mid)
    (begun : Running) (model_is : begun.meaning ≡ m) (end_is : begun.end ≡ end) (moves : List Move) where
  module _ (consistent : IsConsistentSession begun) (system_is : system_of begun ≡ opened m.lps nodes first) where
    moved : (made : Running) → StepsAreMade moves begun made → moves_made m end moves (opened m.lps nodes first) ≡ Some (system_of made)
    moved made steps =
        subst (λ (p : System). moves_made m end moves p ≡ Some (system_of made)) system_is
        (subst (λ (e : ℕ). moves_made m e moves (system_of begun) ≡ Some (system_of made)) end_is
        (subst (λ (n : Meaning). moves_made n begun.end moves (system_of begun) ≡ Some (system_of made)) model_is steps.moves_are))

    system : IsSystem m end (opened m.lps nodes first)
    system =
        subst (λ (p : System). IsSystem m end p) system_is
        (subst (λ (e : ℕ). IsSystem m e (system_of begun)) end_is (subst (λ (n : Meaning). IsSystem n begun.end (system_of begun)) model_is consistent.system))

    upto : (made : Running) → StepsAreMade moves begun made → IsUpto m end made.front.time made.front
    upto made steps = (moves_made_are_sound m end moves (opened m.lps nodes first) (system_of made) system (moved made steps)).system.sound.front

    soon : (made : Running) → StepsAreMade moves begun made → made.front.time ≤ end
    soon made steps = (fronts_open m end 1 (system_of made) (moves_made_are_sound m end moves (opened m.lps nodes first) (system_of made) system (moved made steps)).system (omega arith)).soon

  pub resumed : (made : Running) (last : World) (new : DiskState) → (RecoversUnderItsEnd m v.time disk → IsConsistentSession begun × (system_of begun ≡ opened m.lps nodes first)) → (IsConsistentSession begun → StepsAreMade moves begun made) → last ≡ made.front
      → (RecoversUnderItsEnd m v.time disk → Recovers m end first.time mid → KeepsRecovery m end first.time last.time mid new) → IsResumed m end nodes moves v disk new (Some last.time)
  resumed made last new begin steps last_is driven = record {
    front = Some last;
    consistent = refl;
    driven = λ recovers w is.
        let same : last ≡ w = cc in
        let b = begin recovers in
        record { first = first; replayed = replayed; last = system_of made; moved = moved b.0 b.1 made (steps b.0); front_is = sym same ∙ last_is };
    kept = record {
      crashes = λ recovers. let keeps = opened_kept recovers in goes-under m end v.time first.time last.time disk mid new keeps.0 (driven recovers keeps.1);
      front = λ recovers s is.
          let b = begin recovers in
          let front : in_force end made.front ≡ s = (let e : in_force end last ≡ s = cc in ap (in_force end) (sym last_is) ∙ e) in
          subst (λ (x : Simulation). IsUpto m x.end x.world.time x.world × (x.world.time ≤ x.end)) front (upto b.0 b.1 made (steps b.0), soon b.0 b.1 made (steps b.0));
    };
  }

pub not_resumed : (m : Meaning) (end nodes : ℕ) (moves : List Move) (v : World) (old new : DiskState) → OnlyLooks old new → IsResumed m end nodes moves v old new None
not_resumed m end nodes moves v old new looks = record { front = None; consistent = refl; driven = λ recovers w is. absurd (cc); kept = record { crashes = λ recovers. looked-under m v.time old new looks recovers; front = λ recovers s is. absurd (cc) } }
