-- What the commands print, in a common form.
use Rattle.std.specs.Io.KnownBytes.{Appends}
use Rattle.std.specs.Prelude.{◌≡◌, ◌⊎◌, ◌≢◌, ◌++◌, ◌&&◌, [], ℕ, List, Option, Result, Ok, Err, OnOk, OnErr, Some, is_some, length}
use Rattle.std.proofs.Common.{Bool, false, true, ap, arith, refl, subst, sym, inl, inr, ◌∙◌}
use Rattle.std.proofs.lemmas.List.{append-nil}
use Rattle.runs.specs.Commands.{PrintsExtended, extended_text, stopped_text}
use Rattle.runs.specs.Migrating.{PrintsMigrated, migrated_text}
use Rattle.runs.specs.declared.commands.fault.CommandFault.{CommandFault}
use Rattle.runs.specs.declared.commands.fault.CommandFault.TheVariants as on_disk
use Rattle.commitlog.specs.Records.{Holds}
use Rattle.commitlog.specs.declared.records.Entry.{Entry}
use Rattle.disk.specs.Disk.{DiskState}
use Rattle.eventkey.specs.Writing.{TakesBeginning}
use Rattle.upkeep.specs.Old.{IsOldLog}
use Rattle.model.specs.Meaning.{Meaning}
use Rattle.model.specs.declared.origin.Origin.{Origin}
use Rattle.texts.specs.ModelFile.{IsModelFile}
use Rattle.views.specs.Reading.{IsOn}
use Rattle.views.specs.Views.{Begins, Describes, Prints}
use Rattle.program.specs.Attempts.{judges_all}
use Rattle.program.specs.Command.{IsEnded, IsExtendedText, IsMigratedText, IsNotEnded}
use Rattle.disk_commands.specs.declared.fault.Fault.{Fault}

pub when_ok : {T E X : Type 0} (r : Result T E) → X → OnOk r X
when_ok (Ok x) h = h
when_ok (Err e) h = tt

pub on_ok_so : {T E X Y : Type 0} (r : Result T E) → (X → Y) → OnOk r X → OnOk r Y
on_ok_so (Ok x) so h = so h
on_ok_so (Err e) so h = tt

pub on_any : {T E X : Type 0} (r : Result T E) → X → OnErr r X
on_any (Ok x) h = tt
on_any (Err e) h = h

module _ {T A B : Type 0} where
  -- a fault is `Output`, or another one
  pub on_command : (r : Result T CommandFault) → (r ≡ Err on_disk.Output → B) → ((f : CommandFault) → r ≡ Err f → f ≢ on_disk.Output → A) → OnErr r (A ⊎ B)
  on_command (Ok x) h k = tt
  on_command (Err on_disk.Output) h k = inr (h refl)
  on_command (Err on_disk.NoMemory) h k = inl (k on_disk.NoMemory refl (λ e. cc))
  on_command (Err (on_disk.Log f)) h k = inl (k (on_disk.Log f) refl (λ e. cc))
  on_command (Err (on_disk.Recovery f)) h k = inl (k (on_disk.Recovery f) refl (λ e. cc))
  on_command (Err (on_disk.Session f)) h k = inl (k (on_disk.Session f) refl (λ e. cc))
  on_command (Err on_disk.Rounds) h k = inl (k on_disk.Rounds refl (λ e. cc))
  on_command (Err (on_disk.Stopped t n)) h k = inl (k (on_disk.Stopped t n) refl (λ e. cc))
  on_command (Err (on_disk.Migrate f)) h k = inl (k (on_disk.Migrate f) refl (λ e. cc))

-- how a run ended, after what it has printed, from `old` to `mid`
module _ {T U : Type 0} (Ran Stopped : List ℕ → Type 0) (old mid new : Option (List ℕ)) where
  -- `Ran` holds of the text at the end of its simulation, and `Stopped` of that after a stop
  pub ended_printed : (outcome : Result T CommandFault) (r : Result U Fault) (stops : Bool) → OnOk outcome (Prints Ran old mid) → ((f : CommandFault) → outcome ≡ Err f → f ≢ on_disk.Output → mid ≡ old)
      → ((time events : ℕ) → outcome ≡ Err (on_disk.Stopped time events) → Stopped (stopped_text time events)) → OnOk r (IsEnded outcome stops mid new) → OnOk r (Prints (λ text. Ran text ⊎ ((stops ≡ true) × Stopped text)) old new)
  ended_printed outcome (Err e) stops ran unwritten stopped ended = tt
  ended_printed (Ok x) (Ok y) stops ran unwritten stopped ended = (ran.0, inl ran.1, subst (λ (o : Option (List ℕ)). Appends old o ran.0) (sym ended) ran.2)
  ended_printed (Err (on_disk.Stopped t n)) (Ok y) true ran unwritten stopped ended =
      (stopped_text t n, inr (refl, stopped t n refl), subst (λ (o : Option (List ℕ)). Appends o new (stopped_text t n)) (unwritten (on_disk.Stopped t n) refl (λ e. cc)) ended)
  ended_printed (Err (on_disk.Stopped t n)) (Ok y) false ran unwritten stopped ended = absurd ended
  ended_printed (Err on_disk.Output) (Ok y) stops ran unwritten stopped ended = absurd ended
  ended_printed (Err on_disk.NoMemory) (Ok y) stops ran unwritten stopped ended = absurd ended
  ended_printed (Err (on_disk.Log f)) (Ok y) stops ran unwritten stopped ended = absurd ended
  ended_printed (Err (on_disk.Recovery f)) (Ok y) stops ran unwritten stopped ended = absurd ended
  ended_printed (Err (on_disk.Session f)) (Ok y) stops ran unwritten stopped ended = absurd ended
  ended_printed (Err on_disk.Rounds) (Ok y) stops ran unwritten stopped ended = absurd ended
  ended_printed (Err (on_disk.Migrate f)) (Ok y) stops ran unwritten stopped ended = absurd ended

  -- `same` says that nothing is printed after the run, and `all` that nothing is printed at all
  pub ended_begun : (outcome : Result T CommandFault) (r : Result U Fault) (stops : Bool) (same all : Type 0) → (outcome ≡ Err on_disk.Output → Begins Ran old mid) → ((f : CommandFault) → outcome ≡ Err f → f ≢ on_disk.Output → mid ≡ old)
      → ((time events : ℕ) → outcome ≡ Err (on_disk.Stopped time events) → Stopped (stopped_text time events)) → (same → new ≡ mid) → ((f : CommandFault) → outcome ≡ Err f → f ≢ on_disk.Output → same → all)
      → OnErr r (IsNotEnded outcome stops same (TakesBeginning mid new)) → OnErr r (all ⊎ Begins (λ text. Ran text ⊎ ((stops ≡ true) × Stopped text)) old new)
  ended_begun outcome (Ok y) stops same all begun unwritten stopped still none ended = tt
  ended_begun (Ok x) (Err e) stops same all begun unwritten stopped still none ended = absurd ended
  ended_begun (Err (on_disk.Stopped t n)) (Err e) true same all begun unwritten stopped still none ended =
      inr (stopped_text t n, inr (refl, stopped t n refl), subst (λ (o : Option (List ℕ)). TakesBeginning o new (stopped_text t n)) (unwritten (on_disk.Stopped t n) refl (λ e. cc)) ended)
  ended_begun (Err (on_disk.Stopped t n)) (Err e) false same all begun unwritten stopped still none ended = inl (none (on_disk.Stopped t n) refl (λ e. cc) ended)
  ended_begun (Err on_disk.Output) (Err e) stops same all begun unwritten stopped still none ended =
      (let part = begun refl in inr (part.0, inl part.1, subst (λ (o : Option (List ℕ)). TakesBeginning old o part.0) (sym (still ended)) part.2))
  ended_begun (Err on_disk.NoMemory) (Err e) stops same all begun unwritten stopped still none ended = inl (none on_disk.NoMemory refl (λ e. cc) ended)
  ended_begun (Err (on_disk.Log f)) (Err e) stops same all begun unwritten stopped still none ended = inl (none (on_disk.Log f) refl (λ e. cc) ended)
  ended_begun (Err (on_disk.Recovery f)) (Err e) stops same all begun unwritten stopped still none ended = inl (none (on_disk.Recovery f) refl (λ e. cc) ended)
  ended_begun (Err (on_disk.Session f)) (Err e) stops same all begun unwritten stopped still none ended = inl (none (on_disk.Session f) refl (λ e. cc) ended)
  ended_begun (Err on_disk.Rounds) (Err e) stops same all begun unwritten stopped still none ended = inl (none on_disk.Rounds refl (λ e. cc) ended)
  ended_begun (Err (on_disk.Migrate f)) (Err e) stops same all begun unwritten stopped still none ended = inl (none (on_disk.Migrate f) refl (λ e. cc) ended)

-- a run has printed all of its output, a beginning of it or nothing, from `old` to `new`; `all` says the last
module _ {T : Type 0} (Ran Stopped : List ℕ → Type 0) (stops : Bool) (all : Type 0) (old new : Option (List ℕ)) where
  pub tried_begun : (outcome : Result T CommandFault) → OnOk outcome (Prints Ran old new) → (outcome ≡ Err on_disk.Output → Begins Ran old new) → ((f : CommandFault) → outcome ≡ Err f → f ≢ on_disk.Output → all)
      → all ⊎ Begins (λ text. Ran text ⊎ ((stops ≡ true) × Stopped text)) old new
  tried_begun (Ok x) ran begun none = inr (ran.0, inl ran.1, record { taken = ran.0; left = []; whole = sym (append-nil ran.0); appended = ran.2 })
  tried_begun (Err on_disk.Output) ran begun none = (let part = begun refl in inr (part.0, inl part.1, part.2))
  tried_begun (Err on_disk.NoMemory) ran begun none = inl (none on_disk.NoMemory refl (λ e. cc))
  tried_begun (Err (on_disk.Log f)) ran begun none = inl (none (on_disk.Log f) refl (λ e. cc))
  tried_begun (Err (on_disk.Recovery f)) ran begun none = inl (none (on_disk.Recovery f) refl (λ e. cc))
  tried_begun (Err (on_disk.Session f)) ran begun none = inl (none (on_disk.Session f) refl (λ e. cc))
  tried_begun (Err on_disk.Rounds) ran begun none = inl (none on_disk.Rounds refl (λ e. cc))
  tried_begun (Err (on_disk.Stopped t n)) ran begun none = inl (none (on_disk.Stopped t n) refl (λ e. cc))
  tried_begun (Err (on_disk.Migrate f)) ran begun none = inl (none (on_disk.Migrate f) refl (λ e. cc))

-- the output of a run, for the model of a file
module _ {M : Type 0} (meaning : M → Meaning) (says : Describes M) (source : List ℕ) (model : M) (end : ℕ) (file : IsModelFile says source model end) where
  -- the output for a later end
  carried_taken : {Taken : List ℕ → Type 0} (origin : Option Origin) (on : Meaning) (begun left : DiskState) → IsOn (meaning model) begun.reads origin on → PrintsExtended on end begun left Taken → (text : List ℕ) × IsExtendedText meaning says text × Taken text
  carried_taken origin on begun left is_on p = (
    extended_text p.before end,
    record {
      source = source;
      model = model;
      end = end;
      image = begun.reads;
      origin = origin;
      on = on;
      before = p.before;
      front = p.front;
      file = file;
      is_on = is_on;
      rises = p.rises;
      replayed = p.replayed;
      is = refl;
    },
    p.taken,
  )

  pub carried_printed : (origin : Option Origin) (on : Meaning) (begun left : DiskState) → IsOn (meaning model) begun.reads origin on → (old new : Option (List ℕ)) → PrintsExtended on end begun left (Appends old new) → Prints (IsExtendedText meaning says) old new
  carried_printed origin on begun left is_on old new p = carried_taken origin on begun left is_on p

  pub carried_begun : (origin : Option Origin) (on : Meaning) (begun left : DiskState) → IsOn (meaning model) begun.reads origin on → (old new : Option (List ℕ)) → PrintsExtended on end begun left (TakesBeginning old new) → Begins (IsExtendedText meaning says) old new
  carried_begun origin on begun left is_on old new p = carried_taken origin on begun left is_on p

  -- the output of a migration
  module _ (image : List (List ℕ)) (header : List ℕ) (olds : List Entry) (held : Holds header olds image) (ours : IsOldLog (meaning model) end header olds) (left : DiskState) where
    anew_taken : {Taken : List ℕ → Type 0} → PrintsMigrated (meaning model) header olds left Taken → (text : List ℕ) × IsMigratedText meaning says text × Taken text
    anew_taken p = (
      migrated_text p.front.time (length p.front.log),
      record {
        source = source;
        model = model;
        end = end;
        image = image;
        old_header = header;
        olds = olds;
        new_header = p.header;
        news = p.news;
        front = p.front;
        file = file;
        held = held;
        old = ours;
        migrated = p.migrated;
        is = refl;
      },
      p.taken,
    )

    pub anew_printed : (old new : Option (List ℕ)) → PrintsMigrated (meaning model) header olds left (Appends old new) → Prints (IsMigratedText meaning says) old new
    anew_printed old new p = anew_taken p

    pub anew_begun : (old new : Option (List ℕ)) → PrintsMigrated (meaning model) header olds left (TakesBeginning old new) → Begins (IsMigratedText meaning says) old new
    anew_begun old new p = anew_taken p

-- what holds of a run whose commits are judged, and of one whose commits are not
pub by_judged : (F : Bool → Type 0) (judged : Bool) → (judged ≡ true → F true) → (judged ≡ false → F false) → F judged
by_judged F true holds other = holds refl
by_judged F false holds other = other refl

-- the commits of a run over node programs are judged if all reported events are
pub judged_apart : {S : Type 0} (sockets : Option S) (folder : S) (judge : Option ℕ) → sockets ≡ Some folder → (is_some sockets && judges_all judge) ≡ judges_all judge
judged_apart {S} sockets folder judge is = ap (λ (s : Option S). is_some s && judges_all judge) is
