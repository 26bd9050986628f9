-- What stays the same with sectors after an image.
use Rattle.std.proofs.lemmas.Option.{none-some}
use Rattle.std.proofs.Common.{◌≡◌, ◌<◌, ℕ, List, ◌++◌, length, sym, subst, arith, None}
use Rattle.commitlog.specs.Laws.{one_log}
use Rattle.commitlog.specs.Records.{Holds}
use Rattle.commitlog.specs.declared.records.Entry.{Entry}
use Rattle.commitlog.proofs.Behind.{log_is_kept}
use Rattle.recovery.specs.Crashes.{KeepsRecovery, KeepsUnderItsEnd, RecoversUnderItsEnd, RepresentsUnderItsEnd}
use Rattle.recovery.specs.Represents.{Recovers, RepresentsAtLeast}
use Rattle.disk.specs.Disk.{DiskState, IsDisk, LeavesOnly, MayLeave, OnlyLooks}
use Rattle.disk.specs.Growth.{GrowthIsRefused, MayLeaveGrown, zero_sectors, grown_to}
use Rattle.disk.specs.Laws.{followed, left_now, reads_left, weaker}
use Rattle.disk.specs.declared.growing.GrowthFault.{GrowthFault}
use Rattle.recovery.specs.Histories.{IsKept}
use Rattle.recovery.specs.OldRecords.{HoldsAtLeast, KeepsOldRecords}
use Rattle.recovery.proofs.OldRecords.{keeps_old}
use Rattle.model.specs.Meaning.{Meaning}
use Rattle.model.specs.World.{World}
use Rattle.recovery.specs.Header.{header_bytes, header_of}
use Rattle.recovery.specs.declared.RecoveryFault.{RecoveryFault}
use Rattle.recovery.specs.declared.RecoveryFault.TheVariants.{BadCheckpoint, BadEnd, BadRecord, GoesBack, Log, NoMemory, NotTheLeast, NumberLimit, OtherModel}
use Rattle.recovery.proofs.Disks.{representing_disk_is_opened}
use Rattle.upkeep.specs.declared.growing.GrowingFault.{GrowingFault}
use Rattle.upkeep.specs.declared.growing.GrowingFault.TheVariants.{Growth, Recovery}
use Rattle.upkeep.specs.Growing.{GenuineStays, GrowingIsRefused, IsResourceFaultAtGrowing, HeldLogStays, ReplayStays, RepresentationAtLeastStays, RepresentationStays, RepresentationUnderItsEndStays}

-- 1. The laws

pub representation_stays : RepresentationStays
representation_stays m end image behind w s = record {
  first = s.first;
  possible = s.possible;
  entries = s.entries;
  holds = log_is_kept (header_bytes (header_of m s.first)) s.entries image behind s.holds;
  represent = s.represent;
}

pub representation_at_least_stays : RepresentationAtLeastStays
representation_at_least_stays m end a image behind s = record { world = s.world; represents = representation_stays m end image behind s.world s.represents; time = s.time }

pub representation_under_its_end_stays : RepresentationUnderItsEndStays
representation_under_its_end_stays m a image behind s = record { end = s.end; represents = representation_at_least_stays m s.end a image behind s.represents }

pub held_log_stays : HeldLogStays
held_log_stays m end entries image behind log = record {
  first = log.first;
  possible = log.possible;
  holds = log_is_kept (header_bytes (header_of m log.first)) entries image behind log.holds;
  behind = log.behind;
}

pub replay_stays : ReplayStays
unfolding held_log_stays
replay_stays m end image behind w r = record { entries = r.entries; log = held_log_stays m end r.entries image behind r.log; replayed = r.replayed }

-- its log begins with the same records
at_least_stays : (header : List ℕ) (records : List Entry) (image behind : List (List ℕ)) → HoldsAtLeast header records image → HoldsAtLeast header records (image ++ behind)
at_least_stays header records image behind held = record { more = held.more; holds = log_is_kept header (records ++ held.more) image behind held.holds }

-- the longer image holds no other log
pub genuine_stays : GenuineStays
genuine_stays m end header records image behind holds genuine entries log =
    let same = one_log header (header_bytes (header_of m log.first)) records entries (image ++ behind) (log_is_kept header records image behind holds) log.holds in
    genuine entries (record {
      first = log.first;
      possible = log.possible;
      holds = subst (λ (h : List ℕ). Holds h entries image) same.0 (subst (λ (es : List Entry). Holds header es image) same.1 holds);
      behind = log.behind;
    })

-- 2. A read and a growth

module _ (m : Meaning) (old mid : DiskState) (looks : OnlyLooks old mid) where
  module _ (new : DiskState) (most : ℕ) (grows : LeavesOnly mid new (MayLeaveGrown mid.reads mid.dirty most)) where
    -- what holds of each image that a crash may leave at first, also with sectors after it
    stays : (P : List (List ℕ) → Type 0) → ((image behind : List (List ℕ)) → P image → P (image ++ behind)) → ((image : List (List ℕ)) → MayLeave old.reads old.dirty image → P image) → LeavesOnly old new P
    stays P kept at_first = followed old mid new P (weaker old mid (MayLeave old.reads old.dirty) P looks.since at_first)
        (weaker mid new (MayLeaveGrown mid.reads mid.dirty most) P grows
        (λ image grown. subst P (sym grown.is) (kept grown.before (zero_sectors grown.zeros) (at_first grown.before (looks.now grown.before grown.left)))))

    pub recovery_stays : (end a : ℕ) → Recovers m end a old → KeepsRecovery m end a a old new
    recovery_stays end a recovers =
        let only = stays (RepresentsAtLeast m end a) (representation_at_least_stays m end a) recovers in
        record { any_moment = only; now_on = left_now old new (RepresentsAtLeast m end a) only; later = omega arith }

    pub under_its_end_stays : (a : ℕ) → RecoversUnderItsEnd m a old → KeepsUnderItsEnd m a a old new
    under_its_end_stays a recovers =
        let only = stays (RepresentsUnderItsEnd m a) (representation_under_its_end_stays m a) recovers in
        record { any_moment = only; now_on = left_now old new (RepresentsUnderItsEnd m a) only; later = omega arith }

    pub old_records_stay : KeepsOldRecords old new
    old_records_stay = keeps_old old new (λ header records still. stays (HoldsAtLeast header records) (at_least_stays header records) still)

  -- the sectors after that
  pub grown_from : (sectors : ℕ) (reads : List (List ℕ)) → reads ≡ grown_to sectors mid.reads → reads ≡ grown_to sectors old.reads
  grown_from sectors reads is = subst (λ (l : List (List ℕ)). reads ≡ grown_to sectors l) looks.same is

  pub refused_from : (fault : GrowthFault) (sectors most now : ℕ) → mid.failures ≡ old.failures → GrowthIsRefused fault (length mid.reads) sectors most (mid.failures < now) → GrowthIsRefused fault (length old.reads) sectors most (old.failures < now)
  refused_from fault sectors most now same refused =
      subst (λ n. GrowthIsRefused fault (length old.reads) sectors most (n < now)) same
      (subst (λ (l : List (List ℕ)). GrowthIsRefused fault (length l) sectors most (mid.failures < now)) looks.same refused)

pub kept_call : (m : Meaning) (v : World) (old new : DiskState) → ((a : ℕ) → RecoversUnderItsEnd m a old → KeepsUnderItsEnd m a a old new) → IsKept m v (record { begun = old; ended = new; front = None })
kept_call m v old new keeps = record { crashes = keeps v.time; front = λ recovers s outcome. absurd (none-some s outcome) }

-- 3. Refusals

wanting_log : (m : Meaning) (disk : DiskState) (sound : IsDisk disk.reads disk.dirty) (end a sectors most now : ℕ) → Recovers m end a disk → (fault : RecoveryFault) →
    GrowingIsRefused m disk.reads sectors most (disk.failures < now) (Recovery fault) → IsResourceFaultAtGrowing (length disk.reads) sectors most (disk.failures < now) (Recovery fault)
wanting_log m disk sound end a sectors most now recovers (Log fault) refused = representing_disk_is_opened m end a disk fault disk.failures now sound recovers refused
wanting_log m disk sound end a sectors most now recovers OtherModel refused =
    let stood = (recovers disk.reads (reads_left disk.reads disk.dirty sound)).represents in
    absurd (refused.1 (record { first = stood.first; possible = stood.possible; is = stood.holds.header_is }))
wanting_log m disk sound end a sectors most now recovers NoMemory refused = tt
wanting_log m disk sound end a sectors most now recovers BadRecord refused = refused
wanting_log m disk sound end a sectors most now recovers NotTheLeast refused = refused
wanting_log m disk sound end a sectors most now recovers GoesBack refused = refused
wanting_log m disk sound end a sectors most now recovers BadCheckpoint refused = refused
wanting_log m disk sound end a sectors most now recovers NumberLimit refused = refused
wanting_log m disk sound end a sectors most now recovers BadEnd refused = refused

-- if the disk represents a world
pub wanting : (m : Meaning) (disk : DiskState) (sound : IsDisk disk.reads disk.dirty) (end a sectors most now : ℕ) → Recovers m end a disk → (fault : GrowingFault) →
    GrowingIsRefused m disk.reads sectors most (disk.failures < now) fault → IsResourceFaultAtGrowing (length disk.reads) sectors most (disk.failures < now) fault
wanting m disk sound end a sectors most now recovers (Recovery fault) refused = wanting_log m disk sound end a sectors most now recovers fault refused
wanting m disk sound end a sectors most now recovers (Growth fault) refused = refused.1
