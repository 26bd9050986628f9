-- What the commands print of a disk.
use Rattle.std.proofs.Common.{false, ap, arith, inl, inr, refl, subst, sym, ◌∙◌}
use Rattle.std.specs.Io.KnownBytes.{Appends, Keeps}
use Rattle.std.specs.Prelude.{◌≡◌, ◌≢◌, ◌≤◌, ◌^◌, ℕ, IsOkUnless, List, [], None, Option, Result, Some, Ok, Err, OnOk, length, option_map}
use Rattle.runs.specs.Commands.{IsBlankOrRepresents, IsNotRecovered, IsPrinted, OnDone, PrintsExtended, extended_text}
use Rattle.runs.specs.declared.commands.fault.CommandFault.{CommandFault}
use Rattle.runs.specs.declared.commands.fault.CommandFault.TheVariants.{Output}
use Rattle.commitlog.specs.Faults.{OpenIsRefused}
use Rattle.commitlog.specs.Log.{IsDurable, Opened}
use Rattle.commitlog.specs.declared.records.Entry.{Entry}
use Rattle.commitlog.specs.declared.fault.LogFault.{LogFault}
use Rattle.commitlog.specs.declared.fault.LogFault.TheVariants.{Corrupt, Disk, Full, NoMemory as LogNoMemory, NotBlank, NotFormatted, Spent, TooLong}
use Rattle.disk.specs.declared.disk.DiskFault.TheVariants.{Device, NoSuchSector}
use Rattle.commitlog.specs.Records.{Holds, IsBlank, IsBlankOrEmptyLog, IsFormatted}
use Rattle.recovery.specs.Crashes.{KeepsRecovery}
use Rattle.recovery.specs.Represents.{Recovers, RepresentsAtLeast}
use Rattle.coordinator.specs.Extending.{IsExtended, KeepsRecords}
use Rattle.coordinator.specs.Opening.{IsAtFault, LeavesExactly}
use Rattle.disk.specs.Disk.{DiskState, IsDisk, IsSynced, LeavesOnly, MayLeave, OnlyLooks}
use Rattle.disk.specs.Laws.{reads_left, weaker}
use Rattle.eventkey.specs.Message.{Message}
use Rattle.model.proofs.Worlds.{IsUpto_IsWorld}
use Rattle.model.specs.Meaning.{IsLawful, Meaning}
use Rattle.model.specs.World.{IsUpto, World, opening}
use Rattle.recovery.proofs.Images.{empty_log_represents}
use Rattle.recovery.proofs.Later.{upto_is_of_each_end}
use Rattle.recovery.proofs.Representation.{represented_is_upto}
use Rattle.recovery.specs.Histories.{IsBeginning, IsKept}
use Rattle.recovery.specs.Causes.{IsFirstAtFault}
use Rattle.recovery.specs.Ends.{IsEnd, IsLater, IsOurs}
use Rattle.recovery.specs.Header.{header_bytes, header_of}
use Rattle.recovery.specs.Recovered.{RecoveryIsRefused}
use Rattle.recovery.specs.Replay.{IsReplayedTo, in_force}
use Rattle.recovery.specs.declared.RecoveryFault.{RecoveryFault}
use Rattle.recovery.specs.declared.RecoveryFault.TheVariants.{BadCheckpoint, BadEnd, BadRecord, GoesBack, Log, NoMemory, NotTheLeast, NumberLimit, OtherModel}
use Rattle.recovery.proofs.Crashes.{are-readable, log-on, ours-of}
use Rattle.eventkey.proofs.Writers.{appended_as, began, begun_as, writes_whole}
use Rattle.eventkey.specs.Writing.{TakesBeginning, Writes}

pub at_ok : {T E X : Type 0} (r : Result T E) → X → OnOk r X
at_ok (Ok x) h = h
at_ok (Err e) h = tt

-- a writer's refusal is the only fault of what was written
only_output : {T : Type 0} (r : Result T CommandFault) (fault : CommandFault) → IsOkUnless r Output → r ≡ Err fault → fault ≡ Output
only_output (Ok x) fault unless is = absurd cc
only_output (Err own) fault unless is = (let same : own ≡ fault = cc in sym same ∙ unless)

pub printed_by : (r : Result (Unit {0}) CommandFault) (same : Type 0) (before after : Option (List ℕ)) (text : List ℕ) → Writes before after r text → IsOkUnless r Output → IsPrinted (λ Taken. Taken text) r same before after
printed_by r same before after text written unless = record { all = written.all; part = λ is. began written is; none = λ fault is other. absurd (other (only_output r fault unless is)) }

pub done_by : {P : Type 0} (r : Result (Unit {0}) CommandFault) → IsOkUnless r Output → P → OnDone r P
done_by (Ok x) unless p = p
done_by {P} (Err fault) unless p = subst (λ (f : CommandFault). OnDone (Err f) P) (sym unless) p

module _ (m : Meaning) (end : ℕ) (header : List ℕ) (is : header ≡ header_bytes (header_of m end)) (possible : IsEnd end) where
  -- an empty log represents the opening world, whatever a crash leaves
  pub empty_represents : (disk : DiskState) → IsDurable header [] disk → LeavesExactly m end (opening m) disk
  empty_represents disk durable = λ image left. empty_log_represents m end image possible ((subst (λ (bytes : List ℕ). IsDurable bytes [] disk) is durable).crash image left)

  -- the same at each moment while the log is made
  pub making_represents : (old new : DiskState) → (IsSynced old.dirty → IsBlank old.reads → LeavesOnly old new (IsBlankOrEmptyLog header))
      → IsSynced old.dirty → IsBlank old.reads → LeavesOnly old new (IsBlankOrRepresents m end (opening m))
  making_represents old new made in_sync blank = weaker old new (IsBlankOrEmptyLog header) (IsBlankOrRepresents m end (opening m)) (made in_sync blank)
      (λ image left. elim left [
        | inl none ↦ inl none
        | inr empty ↦ inr (empty_log_represents m end image possible (subst (λ (bytes : List ℕ). Holds bytes [] image) is empty))
      ])

-- why a log is not opened, without the state of the device
pub not_opened : (fault : LogFault) (image : List (List ℕ)) (failed : Type 0) → OpenIsRefused fault image failed → OpenIsRefused fault image (Unit {0})
not_opened NotFormatted image failed h = h
not_opened Corrupt image failed h = h
not_opened LogNoMemory image failed h = h
not_opened (Disk Device) image failed h = tt
not_opened (Disk NoSuchSector) image failed h = h
not_opened NotBlank image failed h = h
not_opened Full image failed h = h
not_opened TooLong image failed h = h
not_opened Spent image failed h = h

-- a log that is only read represents what it represented before
pub log_stays : (m : Meaning) (end a : ℕ) (old new : DiskState) → IsDisk old.reads old.dirty → (IsFormatted old.reads → OnlyLooks old new) → Recovers m end a old → KeepsRecovery m end a a old new
log_stays m end a old new disk look recovers =
    let looks = look (recovers old.reads (reads_left old.reads old.dirty disk)).represents.holds.formatted in
    record {
      any_moment = weaker old new (MayLeave old.reads old.dirty) (RepresentsAtLeast m end a) looks.since recovers;
      now_on = λ image left. recovers image (looks.now image left);
      later = omega arith;
    }

-- a world of the sequential simulation has a send number for each state
pub each_number : (m : Meaning) (end g : ℕ) (w : World) → IsLawful m → end ≤ 2 ^ 40 → IsUpto m end g w → length w.states ≡ length w.numbers
each_number m end g w law short upto = let is = IsUpto_IsWorld m end g w law short upto in is.states ∙ sym is.numbers

-- the cause why a log is not recovered is the same in the image that holds it
at_fault : (m : Meaning) (end : ℕ) (header : List ℕ) (records : List Entry) (image : List (List ℕ)) (fault : RecoveryFault) → Holds header records image → (ours : IsOurs m end header records) → IsFirstAtFault m ours.first records fault → IsAtFault m end image fault
at_fault m end header records image fault held ours why = record { entries = records; log = log-on m end header records image ours held; first = why }

pub not_recovered : {D : Type 0} (m : Meaning) (end : ℕ) (log : Opened D) (image : List (List ℕ)) (fault : RecoveryFault) (failed : Type 0) → log.spent ≡ false → Holds log.header log.records image → RecoveryIsRefused m end log fault failed → IsNotRecovered m end image fault
not_recovered m end log image OtherModel failed usable held h = (held.formatted, λ entries there. h.1 (ours-of m end log.header log.records entries image there held), are-readable log.header log.records image held)
not_recovered m end log image BadRecord failed usable held h = at_fault m end log.header log.records image BadRecord held h.1 h.2
not_recovered m end log image NotTheLeast failed usable held h = at_fault m end log.header log.records image NotTheLeast held h.1 h.2
not_recovered m end log image GoesBack failed usable held h = at_fault m end log.header log.records image GoesBack held h.1 h.2
not_recovered m end log image BadCheckpoint failed usable held h = at_fault m end log.header log.records image BadCheckpoint held h.1 h.2
not_recovered m end log image BadEnd failed usable held h = at_fault m end log.header log.records image BadEnd held h.1 h.2
not_recovered m end log image NumberLimit failed usable held h = at_fault m end log.header log.records image NumberLimit held h.1 h.2
not_recovered m end log image NoMemory failed usable held h = tt
not_recovered m end log image (Log LogNoMemory) failed usable held h = tt
not_recovered m end log image (Log (Disk Device)) failed usable held h = tt
not_recovered m end log image (Log (Disk NoSuchSector)) failed usable held h = absurd h
not_recovered m end log image (Log NotBlank) failed usable held h = absurd h
not_recovered m end log image (Log NotFormatted) failed usable held h = absurd h
not_recovered m end log image (Log Corrupt) failed usable held h = absurd h
not_recovered m end log image (Log Full) failed usable held h = absurd h
not_recovered m end log image (Log TooLong) failed usable held h = absurd h
not_recovered m end log image (Log Spent) failed usable held h = (let no = sym usable ∙ h in absurd cc)

-- the output for a later end was written completely
pub extended_written : {T E : Type 0} (m : Meaning) (end : ℕ) (old new : DiskState) (before : ℕ) (front : World) (from to : Option (List ℕ)) (r : Result T E) → IsLater before end → IsReplayedTo m before old.reads front → IsExtended end old new
    → Writes from to r (extended_text before end) → OnOk r (PrintsExtended m end old new (Appends from to))
extended_written m end old new before front from to (Ok x) rises replayed extended w = record { before = before; rises = rises; front = front; replayed = replayed; extended = extended; taken = w.all }
extended_written m end old new before front from to (Err e) rises replayed extended w = tt

-- what represents a later time at least represents the former one at least
pub at_least_as_before : (m : Meaning) (a now later : ℕ) (old new : DiskState) → KeepsRecords m a now later old new → KeepsRecords m a a later old new
at_least_as_before m a now later old new h = record {
  any_moment = h.any_moment;
  keeps = record {
    any_moment = h.keeps.any_moment;
    now_on = λ image left. (let here = h.keeps.now_on image left in
        record { end = here.end; represents = record { world = here.represents.world; represents = here.represents.represents; time = omega (arith, here.represents.time, h.keeps.later) } });
    later = omega arith;
  };
}

-- Calls of a history

-- a disk that represents exactly this world begins a history
pub begins-exactly : (m : Meaning) (end : ℕ) (w : World) (disk : DiskState) → IsLawful m → IsDisk disk.reads disk.dirty → LeavesExactly m end w disk → IsBeginning m w disk
begins-exactly m end w disk lawful sound exactly =
    let here = exactly disk.reads (reads_left disk.reads disk.dirty sound) in
    let upto = represented_is_upto m here.first end here.entries w here.represent in
    record {
      lawful = lawful;
      upto = upto_is_of_each_end m end w.time w.time w upto.0 upto.1 (omega arith);
      recovers = λ image left. record { end = end; represents = record { world = w; represents = exactly image left; time = omega arith } };
    }

-- an extended disk acknowledges its front also if nothing could be printed
pub kept-extended : {T : Type 0} (m : Meaning) (end : ℕ) (v front : World) (old new : DiskState) (r : Result T CommandFault) → IsKept m v (record { begun = old; ended = new; front = Some (in_force end front) })
    → (f : Option World) × OnOk r (f ≢ None) × IsKept m v (record { begun = old; ended = new; front = option_map (λ (w : World). in_force end w) f })
kept-extended m end v front old new r kept = (Some front, at_ok r (λ none. cc), kept)
