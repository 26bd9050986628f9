-- What the calls leave of a disk.
use Rattle.std.proofs.Common.{ap, false, inl, inr, subst, sym, arith, refl, ◌∙◌}
use Rattle.std.proofs.lemmas.Bool.{cases_Bool, false≢true}
use Rattle.std.specs.Prelude.{◌≡◌, ◌≢◌, ◌≤◌, ◌^◌, ℕ, List, [], IfErr, None, OnOk, Option, Result, Ok, Err, Some, length, option_map, slice_index_or}
use Rattle.commitlog.specs.Faults.{FormatIsRefused}
use Rattle.commitlog.specs.Log.{IsDurable, Opened}
use Rattle.commitlog.specs.Records.{Holds, IsBlank, IsBlankOrEmptyLog, IsFormatted, is_open}
use Rattle.commitlog.specs.declared.fault.LogFault.{LogFault}
use Rattle.commitlog.specs.declared.fault.LogFault.TheVariants.{Corrupt, Disk, Full, NoMemory as NoMemoryOfLog, NotBlank, NotFormatted, Spent, TooLong}
use Rattle.disk.specs.declared.disk.DiskFault.TheVariants.{Device, NoSuchSector}
use Rattle.recovery.proofs.Crashes.{back-under, looked-keeps, looked-under, recovers-genuine, followed_by, are-readable, ours-of, represents-genuine}
use Rattle.recovery.specs.Crashes.{KeepsRecovery, KeepsUnderItsEnd, RecoversUnderItsEnd, RepresentsUnderItsEnd}
use Rattle.recovery.specs.Histories.{IsKept, IsKeptRun, last_acknowledged}
use Rattle.recovery.specs.Histories.Ending.{Returned}
use Rattle.recovery.specs.Replay.{in_force}
use Rattle.recovery.specs.Represents.{Recovers, IsGenuine, Represents, RepresentsAtLeast}
use Rattle.coordinator.specs.Opening.{LeavesExactly}
use Rattle.disk.specs.Disk.{DiskState, IsDisk, IsSynced, LeavesOnly, OnlyLooks}
use Rattle.disk.specs.Laws.{followed, reads_left, weaker}
use Rattle.model.specs.Meaning.{IsLawful, Meaning}
use Rattle.model.specs.World.{IsUpto, World, opening}
use Rattle.recovery.proofs.Images.{empty_log_represents, image_represents_one, same_log}
use Rattle.recovery.proofs.Representation.{represented_names_its_end}
use Rattle.recovery.specs.Ends.{IsEnd, end_behind}
use Rattle.recovery.specs.Header.{header_bytes, header_of}
use Rattle.recovery.specs.Recovered.{RecoveryIsRefused}
use Rattle.recovery.specs.declared.RecoveryFault.{RecoveryFault}
use Rattle.recovery.specs.declared.RecoveryFault.TheVariants.{BadCheckpoint, BadEnd, BadRecord, GoesBack, Log as LogOfRecovery, NoMemory, NotTheLeast, NumberLimit, OtherModel}
use Rattle.coordinator.proofs.Extensions.{at-fault}
use Rattle.runs.specs.Simulation.{IsBlankOrRepresents, IsBlankOrRepresentsSo, IsNotRecovered, PreparingIsRefused}
use Rattle.runs.specs.declared.fault.SimulationFault.{SimulationFault}
use Rattle.runs.specs.declared.fault.SimulationFault.TheVariants.{Log}

module _ (m : Meaning) (end : ℕ) (header : List ℕ) (is : header ≡ header_bytes (header_of m end)) (possible : IsEnd end) where
  -- an empty log represents the opening world, whatever a crash leaves
  pub empty_represents : (disk : DiskState) → IsDurable header [] disk → LeavesExactly m end (opening m) disk
  empty_represents disk durable = λ image left. empty_log_represents m end image possible ((subst (λ (bytes : List ℕ). IsDurable bytes [] disk) is durable).crash image left)

  -- and does so at each moment while it is made
  pub making_represents : (old new : DiskState) → (IsSynced old.dirty → IsBlank old.reads → LeavesOnly old new (IsBlankOrEmptyLog header))
      → IsSynced old.dirty → IsBlank old.reads → LeavesOnly old new (IsBlankOrRepresents m end (opening m))
  making_represents old new made in_sync blank = weaker old new (IsBlankOrEmptyLog header) (IsBlankOrRepresents m end (opening m)) (made in_sync blank)
      (λ image left. elim left [
        | inl none ↦ inl none
        | inr empty ↦ inr (empty_log_represents m end image possible (subst (λ (bytes : List ℕ). Holds bytes [] image) is empty))
      ])

module _ (m : Meaning) (end a : ℕ) where
  pub log_stays : (old new : DiskState) → IsDisk old.reads old.dirty → (IsFormatted old.reads → OnlyLooks old new) → Recovers m end a old → KeepsRecovery m end a a old new
  log_stays old new disk look recovers = looked-keeps m end a old new (look (recovers old.reads (reads_left old.reads old.dirty disk)).represents.holds.formatted) recovers

  pub one_by_one : (old mid new : DiskState) → KeepsRecovery m end a a old mid → (Recovers m end a mid → KeepsRecovery m end a a mid new) → KeepsRecovery m end a a old new
  one_by_one old mid new first second = followed_by m end a a a old mid new first (second first.now_on)

module _ (m : Meaning) (end : ℕ) where
  pub exactly_recovers : (disk : DiskState) → LeavesExactly m end (opening m) disk → Recovers m end 0 disk
  exactly_recovers disk exactly = λ image left. record { world = opening m; represents = exactly image left; time = omega arith }

  -- a log that represents the opening world represents some world
  pub made_so : (old new : DiskState) → LeavesOnly old new (IsBlankOrRepresents m end (opening m)) → LeavesOnly old new (IsBlankOrRepresentsSo m end)
  made_so old new made = weaker old new (IsBlankOrRepresents m end (opening m)) (IsBlankOrRepresentsSo m end) made
      (λ image left. elim left [
        | inl none ↦ inl none
        | inr represents ↦ inr (record { world = opening m; represents = represents; time = omega arith })
      ])

  -- and after the calls that follow
  pub then_so : (old mid new : DiskState) → LeavesOnly old mid (IsBlankOrRepresentsSo m end) → KeepsRecovery m end 0 0 mid new → LeavesOnly old new (IsBlankOrRepresentsSo m end)
  then_so old mid new first second = followed old mid new (IsBlankOrRepresentsSo m end) first
      (weaker mid new (RepresentsAtLeast m end 0) (IsBlankOrRepresentsSo m end) second.any_moment (λ image represents. inr represents))

-- a log that was made is genuine, and one that was there before still is
pub prepared_genuine : (m : Meaning) (end : ℕ) (old mid : DiskState) → IsLawful m → end ≤ 2 ^ 40 → IsDisk mid.reads mid.dirty → (IsBlank old.reads → LeavesExactly m end (opening m) mid) → (IsFormatted old.reads → OnlyLooks old mid)
    → IsGenuine m end old.reads → IsGenuine m end mid.reads
prepared_genuine m end old mid law short sound made looks genuine = elim (cases_Bool (is_open (slice_index_or old.reads 0 []))) [
  | inl formatted ↦ subst (IsGenuine m end) (sym (looks formatted).same) genuine
  | inr blank ↦ recovers-genuine m end mid sound 0 (exactly_recovers m end mid (made blank))
]

-- the world that a read represents is no earlier than what the disk recovers to
pub no_earlier : (m : Meaning) (end a : ℕ) (disk : DiskState) (w : World) → IsLawful m → end ≤ 2 ^ 40 → IsDisk disk.reads disk.dirty → Recovers m end a disk → Represents m end disk.reads w → a ≤ w.time
no_earlier m end a disk w law short sound recovers represents =
    let least = recovers disk.reads (reads_left disk.reads disk.dirty sound) in
    subst (λ (v : World). a ≤ v.time) (image_represents_one m end end disk.reads least.world w law least.represents represents).1 least.time

-- why no log is made, if none is there
no_log : (fault : LogFault) (image : List (List ℕ)) (failed : Type 0) → fault ≢ NotBlank → FormatIsRefused fault image failed → PreparingIsRefused (Log fault) image failed
no_log NotFormatted image failed other h = h
no_log Corrupt image failed other h = h
no_log NoMemoryOfLog image failed other h = h
no_log (Disk Device) image failed other h = h
no_log (Disk NoSuchSector) image failed other h = h
no_log NotBlank image failed other h = absurd (other refl)
no_log Full image failed other h = h
no_log TooLong image failed other h = h
no_log Spent image failed other h = h

module _ (fault : LogFault) (image : List (List ℕ)) (failed : Type 0) (refused : FormatIsRefused fault image failed) where
  pub not_made : {T : Type 0} (r : Result T SimulationFault) → IfErr r (λ e. (e ≡ Log fault) × (fault ≢ NotBlank)) → IfErr r (λ e. PreparingIsRefused e image failed)
  not_made (Ok x) h = tt
  not_made (Err e) h = subst (λ (f : SimulationFault). PreparingIsRefused f image failed) (sym h.0) (no_log fault image failed h.1 refused)

  pub was_there : {T : Type 0} (P : Type 0) (r : Result T SimulationFault) → OnOk r (fault ≡ NotBlank) → OnOk r (IsBlank image → P)
  was_there P (Ok x) h = λ blank. (let formatted : IsFormatted image = subst (λ (f : LogFault). FormatIsRefused f image failed) h refused in absurd (false≢true (sym blank ∙ formatted)))
  was_there P (Err e) h = tt

-- the world committed at the end is that of the end
pub at_end : (m : Meaning) (end g : ℕ) (w : World) → IsUpto m end g w → g ≤ end → end ≤ g → IsUpto m end end w
at_end m end g w upto soon late = (let same : g ≡ end = omega arith in subst (λ (t : ℕ). IsUpto m end t w) same upto)

pub not_recovered : {D : Type 0} (m : Meaning) (end : ℕ) (log : Opened D) (image : List (List ℕ)) (fault : RecoveryFault) (failed ever : Type 0) → (failed → ever) → log.spent ≡ false → Holds log.header log.records image → RecoveryIsRefused m end log fault failed → IsNotRecovered m end image fault ever
not_recovered m end log image OtherModel failed ever so usable held h = (held.formatted, λ entries there. h.1 (ours-of m end log.header log.records entries image there held), are-readable log.header log.records image held)
not_recovered m end log image BadRecord failed ever so usable held h = at-fault m end log.header log.records image BadRecord held h.1 h.2
not_recovered m end log image NotTheLeast failed ever so usable held h = at-fault m end log.header log.records image NotTheLeast held h.1 h.2
not_recovered m end log image GoesBack failed ever so usable held h = at-fault m end log.header log.records image GoesBack held h.1 h.2
not_recovered m end log image BadCheckpoint failed ever so usable held h = at-fault m end log.header log.records image BadCheckpoint held h.1 h.2
not_recovered m end log image BadEnd failed ever so usable held h = at-fault m end log.header log.records image BadEnd held h.1 h.2
not_recovered m end log image NumberLimit failed ever so usable held h = at-fault m end log.header log.records image NumberLimit held h.1 h.2
not_recovered m end log image NoMemory failed ever so usable held h = tt
not_recovered m end log image (LogOfRecovery NoMemoryOfLog) failed ever so usable held h = tt
not_recovered m end log image (LogOfRecovery (Disk Device)) failed ever so usable held h = so h.2
not_recovered m end log image (LogOfRecovery (Disk NoSuchSector)) failed ever so usable held h = absurd h
not_recovered m end log image (LogOfRecovery NotBlank) failed ever so usable held h = absurd h
not_recovered m end log image (LogOfRecovery NotFormatted) failed ever so usable held h = absurd h
not_recovered m end log image (LogOfRecovery Corrupt) failed ever so usable held h = absurd h
not_recovered m end log image (LogOfRecovery Full) failed ever so usable held h = absurd h
not_recovered m end log image (LogOfRecovery TooLong) failed ever so usable held h = absurd h
not_recovered m end log image (LogOfRecovery Spent) failed ever so usable held h = (let no = sym usable ∙ h in absurd cc)

-- Calls of a history

-- an image that represents a world under its own end is genuine under each end
pub genuine-under-its-end : (m : Meaning) (end a : ℕ) (image : List (List ℕ)) → RepresentsUnderItsEnd m a image → IsGenuine m end image
genuine-under-its-end m end a image here entries log =
    let s = here.represents.represents in
    let w = here.represents.world in
    let same = same_log m s.first log.first s.entries entries image s.possible log.possible s.holds log.holds in
    let end_is : here.end ≡ end = sym (represented_names_its_end m s.first here.end s.entries w s.represent) ∙ ap (λ (n : ℕ). end_behind n s.entries) same.firsts ∙ ap (end_behind log.first) same.all ∙ log.behind in
    represents-genuine m end image w (subst (λ (n : ℕ). Represents m n image w) end_is s) entries log

-- a log that is there is only read before a run
pub prepared-under : (m : Meaning) (a : ℕ) (old new : DiskState) → IsDisk old.reads old.dirty → (IsFormatted old.reads → OnlyLooks old new) → RecoversUnderItsEnd m a old → KeepsUnderItsEnd m a a old new
prepared-under m a old new sound look recovers = looked-under m a old new (look (recovers old.reads (reads_left old.reads old.dirty sound)).represents.represents.holds.formatted) recovers

pub then-under : (m : Meaning) (a b : ℕ) (old mid new : DiskState) → KeepsUnderItsEnd m a a old mid → KeepsUnderItsEnd m a b mid new → KeepsUnderItsEnd m a b old new
then-under m a b old mid new first second = record { any_moment = followed old mid new (RepresentsUnderItsEnd m a) first.any_moment second.any_moment; now_on = second.now_on; later = second.later }

-- a run, and a look at what it left
pub looked-after : (m : Meaning) (a b : ℕ) (old mid new : DiskState) → KeepsUnderItsEnd m a b old mid → OnlyLooks mid new → KeepsUnderItsEnd m a b old new
looked-after m a b old mid new first looks = record {
  any_moment = followed old mid new (RepresentsUnderItsEnd m a) first.any_moment (looked-under m a mid new looks (back-under m a b old mid first).now_on).any_moment;
  now_on = (looked-under m b mid new looks first.now_on).now_on;
  later = first.later;
}

-- what a run keeps, whether or not it acknowledges a front
module _ (m : Meaning) (end : ℕ) (v : World) (old new : DiskState) where
  keeps-acknowledged : (front : Option World) → KeepsUnderItsEnd m v.time (last_acknowledged v Returned (record { begun = old; ended = new; front = option_map (λ (w : World). in_force end w) front })).time old new → KeepsUnderItsEnd m v.time v.time old new
  keeps-acknowledged None keeps = keeps
  keeps-acknowledged (Some w) keeps = back-under m v.time w.time old new keeps

  pub run-keeps : (returned : Option (ℕ × ℕ)) → IsKeptRun m end v old new returned → RecoversUnderItsEnd m v.time old → KeepsUnderItsEnd m v.time v.time old new
  run-keeps returned run recovers = keeps-acknowledged run.front (run.kept.crashes recovers)

  to-front : (time events : ℕ) (front : Option World) → ◌≡◌ {A = Option (ℕ × ℕ)} (Some (time, events)) (option_map (λ (w : World). (w.time, length w.log)) front)
      → KeepsUnderItsEnd m v.time (last_acknowledged v Returned (record { begun = old; ended = new; front = option_map (λ (w : World). in_force end w) front })).time old new → KeepsUnderItsEnd m v.time time old new
  to-front time events None is keeps = absurd (cc)
  to-front time events (Some w) is keeps = (let same : ◌≡◌ {A = ℕ × ℕ} (time, events) (w.time, length w.log) = cc in subst (λ (t : ℕ). KeepsUnderItsEnd m v.time t old new) (sym (ap (λ (p : ℕ × ℕ). p.0) same)) keeps)

  pub run-keeps-to : (time events : ℕ) → IsKeptRun m end v old new (Some (time, events)) → RecoversUnderItsEnd m v.time old → KeepsUnderItsEnd m v.time time old new
  run-keeps-to time events run recovers = to-front time events run.front run.returned_is (run.kept.crashes recovers)

-- a call that acknowledges no front
pub kept-call : (m : Meaning) (v : World) (old new : DiskState) → (RecoversUnderItsEnd m v.time old → KeepsUnderItsEnd m v.time v.time old new) → IsKept m v (record { begun = old; ended = new; front = None })
kept-call m v old new keeps = record { crashes = keeps; front = λ recovers s is. absurd (cc) }
