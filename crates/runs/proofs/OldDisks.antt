-- Disks of format 1, and the new disks of their migration.
use Rattle.std.specs.Io.KnownBytes.{Appends}
use Rattle.std.specs.Prelude.{◌≡◌, ◌≢◌, ◌<◌, ℕ, List, [], ◌∷◌, Option, Result, Ok, Err, IfErr, OnOk, length, take}
use Rattle.std.proofs.Common.{ap, ap₂, arith, inl, inr, subst, sym, ◌∙◌}
use Rattle.runs.specs.Migrating.{IsBlankOrUnderWay, IsMadeFor, IsNoOldLog, IsOfMigration, IsPartlyMigratedUnderOldEnd, MigratingIsRefused, NewIsNotFilled, PrintsMigrated, migrated_text}
use Rattle.runs.specs.declared.commands.fault.CommandFault.{CommandFault}
use Rattle.runs.specs.declared.commands.fault.CommandFault.TheVariants as command
use Rattle.commitlog.specs.Laws.{kept_in_look, one_log}
use Rattle.commitlog.specs.Log.{IsDurable, Opened}
use Rattle.commitlog.specs.Records.{Holds, IsBlank, IsBlankOrEmptyLog, IsFormatted}
use Rattle.commitlog.specs.declared.fault.LogFault.{LogFault}
use Rattle.commitlog.specs.declared.fault.LogFault.TheVariants.{Corrupt, Disk, Full, NoMemory as LogNoMemory, NotBlank, NotFormatted, Spent, TooLong}
use Rattle.commitlog.specs.declared.records.Entry.{Entry}
use Rattle.recovery.proofs.Crashes.{are-readable}
use Rattle.disk.specs.Disk.{DiskState, LeavesOnly, OnlyLooks}
use Rattle.disk.specs.Laws.{followed, weaker}
use Rattle.eventkey.specs.Writing.{Writes}
use Rattle.upkeep.proofs.Headers.{old_header_names_its_end}
use Rattle.upkeep.specs.Migrated.{IsMigrated, IsPartlyMigrated, Leaves, MigrationIsRefused, NewIsRefused}
use Rattle.upkeep.specs.Old.{IsOldLog, IsOldModel, old_header_bytes}
use Rattle.upkeep.specs.Widened.{AreWidened}
use Rattle.upkeep.specs.declared.migration.MigrateFault.TheVariants.{New, NotEmpty, Old}
use Rattle.model.specs.Meaning.{Meaning}
use Rattle.model.specs.World.{World, opening}
use Rattle.recovery.proofs.Representation.{none_represent}
use Rattle.recovery.specs.Ends.{IsEnd, end_behind}
use Rattle.recovery.specs.Header.{header_bytes, header_of}
use Rattle.recovery.specs.declared.RecoveryFault.TheVariants.{OtherModel}

-- 1. The old disk

module _ (m : Meaning) (end : ℕ) (header : List ℕ) (records : List Entry) (image : List (List ℕ)) (held : Holds header records image) where
  -- an image on which another end is in force
  pub other_end : (named : ℕ) → IsOldLog m named header records → (named ≡ end → ⊥) → IsNoOldLog m end image OtherModel
  other_end named old differ = (
    held.formatted,
    λ entries there.
        let same = one_log (old_header_bytes (header_of m there.first)) header entries records image there.holds held in
        let firsts : there.first ≡ old.first = old_header_names_its_end m there.first old.first there.possible old.possible (same.0 ∙ old.is) in
        differ (sym old.behind ∙ sym (ap₂ end_behind firsts same.1) ∙ there.behind),
    are-readable header records image held,
  )

-- 2. The new disk

none_widened : (olds : List Entry) → AreWidened (take 0 olds) []
none_widened [] = tt
none_widened (old ∷ olds) = tt

module _ (m : Meaning) (first : ℕ) (old_header new_header : List ℕ) (olds : List Entry) (possible : IsEnd first) (old_is : old_header ≡ old_header_bytes (header_of m first)) (new_is : new_header ≡ header_bytes (header_of m first)) where
  -- the first records of the old log, as a migration under way
  pub on_the_way : (image : List (List ℕ)) → IsPartlyMigrated m olds new_header image → IsPartlyMigratedUnderOldEnd m old_header olds image
  on_the_way image h = record { first = first; possible = possible; old_is = old_is; on_the_way = subst (λ (bytes : List ℕ). IsPartlyMigrated m olds bytes image) new_is h }

  -- the same without any record
  begun : (image : List (List ℕ)) → Holds new_header [] image → IsPartlyMigratedUnderOldEnd m old_header olds image
  begun image holds = on_the_way image (record {
    count = 0;
    within = omega arith;
    news = [];
    widened = none_widened olds;
    holds = holds;
    represents = λ other is e. (other, opening m, (none_represent m other).0);
  })

  -- a crash at any moment while the log is made, and while it is opened
  pub making : (old new : DiskState) → LeavesOnly old new (IsBlankOrEmptyLog new_header) → LeavesOnly old new (IsBlankOrUnderWay m old_header olds)
  making old new made = weaker old new (IsBlankOrEmptyLog new_header) (IsBlankOrUnderWay m old_header olds) made (λ image left. elim left [
    | inl none ↦ inl none
    | inr empty ↦ inr (begun image empty)
  ])

  pub opening_it : (old mid new : DiskState) → LeavesOnly old mid (IsBlankOrEmptyLog new_header) → IsDurable new_header [] mid → OnlyLooks mid new → LeavesOnly old new (IsBlankOrUnderWay m old_header olds)
  opening_it old mid new made empty looks =
      followed old mid new (IsBlankOrUnderWay m old_header olds) (making old mid made)
      (weaker mid new (Holds new_header []) (IsBlankOrUnderWay m old_header olds) (kept_in_look new_header [] mid new empty looks) (λ image holds. inr (begun image holds)))

  -- a crash at any moment while all records are carried over
  pub carrying : (old mid new : DiskState) → LeavesOnly old mid (IsBlankOrUnderWay m old_header olds) → LeavesOnly mid new (IsPartlyMigrated m olds new_header) → LeavesOnly old new (IsBlankOrUnderWay m old_header olds)
  carrying old mid new made carried =
      followed old mid new (IsBlankOrUnderWay m old_header olds) made
      (weaker mid new (IsPartlyMigrated m olds new_header) (IsBlankOrUnderWay m old_header olds) carried (λ image h. inr (on_the_way image h)))

-- a log is made only on a disk without one
pub not_both : (image : List (List ℕ)) {X : Type 0} → IsBlank image → IsFormatted image → X
not_both image blank formatted = let no = sym blank ∙ formatted in absurd cc

-- the output of a migration was written completely
pub migrated_written : {T E : Type 0} (m : Meaning) (old_header new_header : List ℕ) (olds news : List Entry) (disk : DiskState) (front : World) (from to : Option (List ℕ)) (r : Result T E) → IsMigrated m old_header new_header olds news front → Leaves new_header news disk
    → Writes from to r (migrated_text front.time (length front.log)) → OnOk r (PrintsMigrated m old_header olds disk (Appends from to))
migrated_written m old_header new_header olds news disk front from to (Ok x) migrated leaves w = record { header = new_header; news = news; front = front; migrated = migrated; leaves = leaves; taken = w.all }
migrated_written m old_header new_header olds news disk front from to (Err e) migrated leaves w = tt

-- 3. Refusals

module _ {D E : Type 0} (m : Meaning) (state : E → DiskState) (old : Opened D) (new : Opened E) (image : List (List ℕ)) (made : IsMadeFor m state old.header new) (blank : IsBlank image) (appended : List Entry) (sectors : ℕ) (old_failed new_failed : Type 0) where
  filled : (fault : LogFault) → NewIsRefused m old.header old.records new appended sectors fault new_failed → NewIsNotFilled m old.header old.records sectors fault new_failed
  filled Spent h = (let no = sym made.usable ∙ h in absurd cc)
  filled NotBlank h = (appended, h)
  filled NotFormatted h = (appended, h)
  filled Corrupt h = (appended, h)
  filled Full h = (appended, h)
  filled TooLong h = (appended, h)
  filled (Disk fault) h = (appended, h)
  filled LogNoMemory h = (appended, h)

  -- the new log has the header that the old one requires
  fits : (ours : IsOldModel m old.header) → new.header ≡ header_bytes (header_of m ours.first)
  fits ours = made.new_is ∙ ap (λ (end : ℕ). header_bytes (header_of m end)) (old_header_names_its_end m made.first ours.first made.possible ours.possible (sym made.old_is ∙ ours.is))

  not_carried : (fault : CommandFault) → IsOfMigration fault (λ named. MigrationIsRefused m old new appended sectors named old_failed new_failed) → MigratingIsRefused m old image sectors fault old_failed new_failed
  not_carried (command.Migrate NotEmpty) h = absurd (h.1 made.count (fits h.0))
  not_carried (command.Migrate (Old fault)) h = h
  not_carried (command.Migrate (New fault)) h = (blank, filled fault h)
  not_carried command.NoMemory h = absurd h
  not_carried (command.Log fault) h = absurd h
  not_carried (command.Recovery fault) h = absurd h
  not_carried (command.Session fault) h = absurd h
  not_carried command.Rounds h = absurd h
  not_carried (command.Stopped t n) h = absurd h
  not_carried command.Output h = absurd h

  -- or the output of the migration is not written
  not_shown : (fault : CommandFault) → (fault ≢ command.Output → IsOfMigration fault (λ named. MigrationIsRefused m old new appended sectors named old_failed new_failed)) → MigratingIsRefused m old image sectors fault old_failed new_failed
  not_shown command.Output h = tt
  not_shown (command.Migrate fault) h = not_carried (command.Migrate fault) (h (λ e. cc))
  not_shown command.NoMemory h = absurd (h (λ e. cc))
  not_shown (command.Log fault) h = absurd (h (λ e. cc))
  not_shown (command.Recovery fault) h = absurd (h (λ e. cc))
  not_shown (command.Session fault) h = absurd (h (λ e. cc))
  not_shown command.Rounds h = absurd (h (λ e. cc))
  not_shown (command.Stopped t n) h = absurd (h (λ e. cc))

pub refused_after : {D E T : Type 0} (m : Meaning) (state : E → DiskState) (old : Opened D) (new : Opened E) (image : List (List ℕ)) (appended : List Entry) (sectors before mid after : ℕ) (old_failed : Type 0) (r : Result T CommandFault) → IsMadeFor m state old.header new → IsBlank image → mid ≡ before
    → IfErr r (λ fault. fault ≢ command.Output → IsOfMigration fault (λ named. MigrationIsRefused m old new appended sectors named old_failed (mid < after))) → IfErr r (λ fault. MigratingIsRefused m old image sectors fault old_failed (before < after))
refused_after m state old new image appended sectors before mid after old_failed (Ok x) made blank same h = tt
refused_after m state old new image appended sectors before mid after old_failed (Err e) made blank same h =
    subst (λ (n : ℕ). MigratingIsRefused m old image sectors e old_failed (n < after)) same (not_shown m state old new image made blank appended sectors old_failed (mid < after) e h)
