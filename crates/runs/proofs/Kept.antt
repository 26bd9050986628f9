-- What a run leaves of its disk.
use Rattle.std.proofs.Common.{◌≡◌, ◌<◌, ◌≤◌, ◌∙◌, Err, None, Ok, Result, Some, ℕ, arith, length, refl, subst, sym}
use Rattle.recovery.proofs.Crashes.{back-under, followed_by, goes-under, kept-front, kept-none, looked-keeps, looked-under, reads-genuine, reads_represent, recovers-genuine}
use Rattle.recovery.specs.Crashes.{KeepsRecovery, KeepsUnderItsEnd, RecoversUnderItsEnd, RepresentsUnderItsEnd}
use Rattle.recovery.specs.Replay.{IsReplayedTo}
use Rattle.recovery.specs.Represents.{IsGenuine, Recovers}
use Rattle.coordinator.specs.Opening.{LeavesExactly}
use Rattle.disk.specs.Disk.{DiskState, IsDisk, MayLeave, OnlyLooks}
use Rattle.disk.specs.Laws.{weaker}
use Rattle.model.specs.Meaning.{IsLawful, Meaning}
use Rattle.model.specs.World.{IsUpto, World}
use Rattle.recovery.specs.Histories.{IsKeptRun, IsStoppedAt}
use Rattle.recovery.specs.Runs.{CommitsSimulation, EndsAsSimulated, acknowledged}
use Rattle.recovery.specs.Runs.RunEnd.{AtEnd}
use Rattle.runs.proofs.Drives.{reached_upto}
use Rattle.runs.proofs.Faults.{ran_over}
use Rattle.runs.specs.Runs.{ended}
use Rattle.runs.specs.Simulation.{as_simulated}
use Rattle.runs.specs.declared.over.Finished.{Finished}
use Rattle.runs.specs.declared.rounds.RunFault.{RunFault}
use Rattle.runs.specs.declared.rounds.RunFault.TheVariants.{NoMemory, Rounds, Session, Stopped}
use Rattle.recovery.proofs.Images.{represents_at_least_earlier}

-- a run that was asked to stop has this front
pub stopped_at : (m : Meaning) (end time events : ℕ) (front : World) → time ≡ front.time → front.time < end → events ≡ length front.log → IsUpto m end front.time front → IsStoppedAt m end time events
stopped_at m end time events front time_is early events_are upto =
    record { world = front; upto = subst (λ (t : ℕ). IsUpto m end t front) (sym time_is) upto; early = omega (arith, time_is, early); events_are = events_are }

-- a session is opened at the first front and driven to the last
module _ (m : Meaning) (end : ℕ) (first last : World) (disk mid new : DiskState) (driven : Recovers m end first.time mid → KeepsRecovery m end first.time last.time mid new) where
  pub keeps : (a : ℕ) → KeepsRecovery m end a first.time disk mid → KeepsRecovery m end a a disk new
  keeps a opened =
      let whole = followed_by m end a first.time last.time disk mid new opened (driven opened.now_on) in
      record {
        any_moment = whole.any_moment;
        now_on = λ image left. represents_at_least_earlier m end a last.time image whole.later (whole.now_on image left);
        later = omega arith;
      }

  pub comes_to : (e : ℕ) → e ≤ last.time → LeavesExactly m end first mid → Recovers m end e new
  comes_to e late exactly = λ image left.
      let begun : Recovers m end first.time mid = λ before may. record { world = first; represents = exactly before may; time = omega arith } in
      represents_at_least_earlier m end e last.time image late ((driven begun).now_on image left)

-- The same as a call of a history: the disk was only read until the session was opened at the front
-- to which its records are replayed.
module _ (m : Meaning) (end : ℕ) (v first last : World) (old mid new : DiskState) (lawful : IsLawful m) (sound : IsDisk old.reads old.dirty) (looks : OnlyLooks old mid) (replayed : IsReplayedTo m end old.reads first)
    (exactly : IsGenuine m end old.reads → LeavesExactly m end first mid) (driven : IsGenuine m end old.reads → Recovers m end first.time mid → KeepsRecovery m end first.time last.time mid new) where
  pub genuine-under : RecoversUnderItsEnd m v.time old → IsGenuine m end old.reads
  genuine-under recovers = reads-genuine m v.time end old first lawful sound recovers replayed

  pub driven-under : RecoversUnderItsEnd m v.time old → KeepsUnderItsEnd m v.time last.time old new
  driven-under recovers =
      let genuine = genuine-under recovers in
      let begun : Recovers m end first.time mid = λ image left. record { world = first; represents = exactly genuine image left; time = omega arith } in
      goes-under m end v.time first.time last.time old mid new
      (record {
        any_moment = weaker old mid (MayLeave old.reads old.dirty) (RepresentsUnderItsEnd m v.time) looks.since recovers;
        now_on = λ image left. record { end = end; represents = begun image left };
        later = (reads_represent m v.time end old first lawful sound recovers replayed).1;
      })
      (driven genuine begun)

-- a run that did not reach its end acknowledges a front only if it was asked to stop
pub kept-stop : (m : Meaning) (end : ℕ) (v : World) (old new : DiskState) (fault : RunFault) → ((time events : ℕ) → fault ≡ Stopped time events → IsKeptRun m end v old new (Some (time, events))) → IsKeptRun m end v old new None
    → IsKeptRun m end v old new (acknowledged (ended (Err fault)))
kept-stop m end v old new (Stopped time events) some none = some time events refl
kept-stop m end v old new Rounds some none = none
kept-stop m end v old new NoMemory some none = none
kept-stop m end v old new (Session cause) some none = none

-- and only then it has numbers
ends-stop : (m : Meaning) (end : ℕ) (new : DiskState) (fault : RunFault) → ((time events : ℕ) → fault ≡ Stopped time events → IsStoppedAt m end time events × Recovers m end time new) → EndsAsSimulated m end new (ended (Err fault))
ends-stop m end new (Stopped time events) stop = stop time events refl
ends-stop m end new Rounds stop = tt
ends-stop m end new NoMemory stop = tt
ends-stop m end new (Session cause) stop = tt

-- a run whose session was not opened, or not even tried, only reads its disk
pub only_read : (m : Meaning) (end : ℕ) (old new : DiskState) (fault : RunFault) → OnlyLooks old new → ((time events : ℕ) → fault ≡ Stopped time events → ⊥) → CommitsSimulation m end old new (ended (Err fault))
only_read m end old new fault looks none = record {
  kept = λ v. kept-stop m end v old new fault (λ time events is. absurd (none time events is)) (kept-none m end v old new (looked-under m v.time old new looks));
  crashes = λ a recovers. looked-keeps m end a old new looks recovers;
  genuine = λ genuine. ends-stop m end new fault (λ time events is. absurd (none time events is));
}

-- A session is opened at the first front and driven to the last. What is committed is the sequential
-- simulation, if that holds of the last front.
module _ (m : Meaning) (end : ℕ) (first last : World) (old mid new : DiskState) (lawful : IsLawful m) (sound : IsDisk old.reads old.dirty) (looks : OnlyLooks old mid) (replayed : IsReplayedTo m end old.reads first)
    (opened : (a : ℕ) → Recovers m end a old → KeepsRecovery m end a first.time old mid) (exactly : IsGenuine m end old.reads → LeavesExactly m end first mid)
    (driven : IsGenuine m end old.reads → Recovers m end first.time mid → KeepsRecovery m end first.time last.time mid new) where
  crashes_of : (a : ℕ) → Recovers m end a old → KeepsRecovery m end a a old new
  crashes_of a recovers = keeps m end first last old mid new (driven (recovers-genuine m end old sound a recovers)) a (opened a recovers)

  -- it reached the end
  pub reaches_end : (time events : ℕ) → time ≡ last.time → events ≡ length last.log → end ≤ last.time → (IsGenuine m end old.reads → IsUpto m end last.time last × (last.time ≤ end)) → CommitsSimulation m end old new (AtEnd time events)
  reaches_end time events time_is events_are late upto = record {
    kept = λ v.
        kept-front m end v old new last (λ recovers. upto (genuine-under m end v first last old mid new lawful sound looks replayed exactly driven recovers))
        time events time_is events_are (driven-under m end v first last old mid new lawful sound looks replayed exactly driven);
    crashes = crashes_of;
    genuine = λ genuine.
        let there : IsUpto m end end last = reached_upto m end last late (upto genuine) in (
          record { world = last; upto = there; time_is = time_is ∙ there.time; events_are = events_are },
          comes_to m end first last old mid new (driven genuine) end late (exactly genuine),
        );
  }

  -- or it did not, and may have been asked to stop
  pub ends_early : (fault : RunFault) → ((time events : ℕ) → fault ≡ Stopped time events → (last.time < end) × (time ≡ last.time) × (events ≡ length last.log) × (IsGenuine m end old.reads → IsUpto m end last.time last × (last.time ≤ end)))
      → CommitsSimulation m end old new (ended (Err fault))
  ends_early fault stop = record {
    kept = λ v.
        kept-stop m end v old new fault
        (λ time events is.
        let s = stop time events is in
        kept-front m end v old new last (λ recovers. s.3 (genuine-under m end v first last old mid new lawful sound looks replayed exactly driven recovers))
        time events s.1 s.2 (driven-under m end v first last old mid new lawful sound looks replayed exactly driven))
        (kept-none m end v old new (λ recovers. back-under m v.time last.time old new (driven-under m end v first last old mid new lawful sound looks replayed exactly driven recovers)));
    crashes = crashes_of;
    genuine = λ genuine.
        ends-stop m end new fault
        (λ time events is.
        let s = stop time events is in (
          stopped_at m end time events last s.1 s.0 s.2 (s.3 genuine).0,
          comes_to m end first last old mid new (driven genuine) time (omega (arith, s.1)) (exactly genuine),
        ));
  }

-- a run of which a simulation says that it reached its end
pub ran_to : (m : Meaning) (end : ℕ) (old new : DiskState) (made : Result Finished RunFault) (done : Finished) → as_simulated made ≡ Ok done → CommitsSimulation m end old new (ended made) → CommitsSimulation m end old new (AtEnd done.time done.events)
ran_to m end old new made done is commits = subst (λ (r : Result Finished RunFault). CommitsSimulation m end old new (ended r)) (ran_over made done is) commits
