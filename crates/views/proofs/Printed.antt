-- What the commands print, in a common form.
use Rattle.std.specs.Io.KnownBytes.{Appends}
use Rattle.std.specs.Prelude.{◌≡◌, ◌⊎◌, ◌≢◌, ◌++◌, [], ℕ, List, None, Option, Result, Some, Ok, Err, OnOk, OnErr, IsErr}
use Rattle.std.proofs.Common.{ap, append_assoc, refl, inl, inr, subst, sym, ◌∙◌}
use Rattle.std.proofs.lemmas.List.{append-nil}
use Rattle.std.proofs.lemmas.Bool.{false≢true}
use Rattle.commitlog.specs.Records.{Holds}
use Rattle.commitlog.specs.declared.records.Entry.{Entry}
use Rattle.eventkey.proofs.Writers.{began}
use Rattle.eventkey.specs.Writing.{TakesBeginning, Writes}
use Rattle.model.specs.World.{World}
use Rattle.model.specs.Meaning.{Meaning}
use Rattle.recovery.specs.Ends.{HoldsLog, IsOurs}
use Rattle.model.specs.declared.WorldFault.{WorldFault}
use Rattle.texts.specs.Text.{log_text}
use Rattle.views.specs.Views.{Begins, Describes, IsCommitted, IsSimulationSoFar, IsWholeSimulation, IsWorldOn, Prints, PrintsBeginning, PrintsLog, PrintsRun, run_text}
use Rattle.views.specs.declared.fault.ViewFault.{ViewFault}
use Rattle.views.specs.declared.fault.ViewFault.TheVariants as fault

pub on_any : {T E X : Type 0} (r : Result T E) → X → OnErr r X
on_any (Ok x) h = tt
on_any (Err e) h = h

pub on_err : {T E A B : Type 0} (r : Result T E) → (A → B) → OnErr r A → OnErr r B
on_err (Ok x) f h = tt
on_err (Err e) f h = f h

module _ {T A B : Type 0} where
  -- a fault is `Output`, one of the simulation, or another one
  pub on_fault : (r : Result T ViewFault) → (r ≡ Err fault.Output → B) → ((f : WorldFault) → r ≡ Err (fault.World f) → B) → ((f : ViewFault) → r ≡ Err f → f ≢ fault.Output → ((w : WorldFault) → f ≢ fault.World w) → A) → OnErr r (A ⊎ B)
  on_fault (Ok x) h w k = tt
  on_fault (Err fault.Output) h w k = inr (h refl)
  on_fault (Err (fault.World f)) h w k = inr (w f refl)
  on_fault (Err fault.BadModel) h w k = inl (k fault.BadModel refl (λ e. cc) (λ v e. cc))
  on_fault (Err fault.File) h w k = inl (k fault.File refl (λ e. cc) (λ v e. cc))
  on_fault (Err (fault.Setting f)) h w k = inl (k (fault.Setting f) refl (λ e. cc) (λ v e. cc))
  on_fault (Err (fault.Log f)) h w k = inl (k (fault.Log f) refl (λ e. cc) (λ v e. cc))
  on_fault (Err (fault.Recovery f)) h w k = inl (k (fault.Recovery f) refl (λ e. cc) (λ v e. cc))
  on_fault (Err (fault.Record n f)) h w k = inl (k (fault.Record n f) refl (λ e. cc) (λ v e. cc))
  on_fault (Err (fault.Segment f)) h w k = inl (k (fault.Segment f) refl (λ e. cc) (λ v e. cc))
  on_fault (Err fault.BadTrace) h w k = inl (k fault.BadTrace refl (λ e. cc) (λ v e. cc))
  on_fault (Err (fault.Mistake f)) h w k = inl (k (fault.Mistake f) refl (λ e. cc) (λ v e. cc))
  on_fault (Err (fault.NoSuchProcess n)) h w k = inl (k (fault.NoSuchProcess n) refl (λ e. cc) (λ v e. cc))
  on_fault (Err fault.NoSuchWord) h w k = inl (k fault.NoSuchWord refl (λ e. cc) (λ v e. cc))
  on_fault (Err fault.NoMemory) h w k = inl (k fault.NoMemory refl (λ e. cc) (λ v e. cc))

-- what is written of a text with this property
module _ (P : List ℕ → Type 0) (text : List ℕ) (is : P text) {T E : Type 0} {old new : Option (List ℕ)} where
  pub prints_written : (r : Result T E) → Writes old new r text → OnOk r (Prints P old new)
  prints_written (Ok x) h = (text, is, h.all)
  prints_written (Err e) h = tt

  pub begins_written : (A : Type 0) → (r : Result T E) → Writes old new r text → OnErr r (A ⊎ Begins P old new)
  begins_written A (Ok x) h = tt
  begins_written A (Err e) h = inr (text, is, h.part)

-- what a failed write has taken, passed on
pub refused_write : {T E U F : Type 0} {old new : Option (List ℕ)} {text : List ℕ} {x : E} (r : Result U F) (s : Result T E) → Writes old new s text → s ≡ Err x → IsErr r → Writes old new r text
refused_write (Ok y) s h e refused = absurd (false≢true refused)
refused_write (Err y) s h e refused = record { all = tt; part = began h e }

-- what is written of a world to which an image is replayed
pub committed_is : {M : Type 0} (meaning : M → Meaning) (says : Describes M) (model : M) (shown : World → List ℕ) (w : World) → IsWorldOn meaning says model w → IsCommitted meaning says shown (shown w)
committed_is meaning says model shown w on = record {
  source = on.source;
  model = model;
  end = on.end;
  image = on.image;
  world = w;
  file = on.file;
  of_disk = on.of_disk;
  is = refl;
}

-- a text that is written whole is a beginning of itself
pub taken_whole : {old new : Option (List ℕ)} {text : List ℕ} → Appends old new text → TakesBeginning old new text
taken_whole {text = text} h = record { taken = text; left = []; whole = sym (append-nil text); appended = h }

module _ {M : Type 0} (meaning : M → Meaning) (says : Describes M) {old new : Option (List ℕ)} where
  pub whole_printed : (source : List ℕ) → PrintsRun meaning says source old new → Prints (IsWholeSimulation meaning says) old new
  whole_printed source p = (run_text p.world, record { source = source; model = p.model; end = p.end; world = p.world; file = p.file; upto = p.upto; is = refl }, p.printed)

  pub so_far : (source : List ℕ) → PrintsBeginning meaning says source old new → Begins (IsSimulationSoFar meaning says) old new
  so_far source p = (p.begun.0, record { source = source; model = p.model; end = p.end; file = p.file; is = p.begun.1 }, p.begun.2)

  pub log_so_far : (source : List ℕ) → PrintsLog meaning says source old new → Begins (IsSimulationSoFar meaning says) old new
  log_so_far source p = (log_text p.world.log, record { source = source; model = p.model; end = p.end; file = p.file; is = inl (p.world, p.run, refl) }, taken_whole p.printed)

-- an end in force in a log is in force on an image that holds the log
abbrev pub log_on : (m : Meaning) (end : ℕ) (header : List ℕ) (records : List Entry) (image : List (List ℕ)) → IsOurs m end header records → Holds header records image → HoldsLog m end records image
log_on m end header records image ours held = record { first = ours.first; possible = ours.possible; holds = subst (λ (h : List ℕ). Holds h records image) ours.is held; behind = ours.behind }

-- what is printed first, and then with names
pub appended_both : (old mid new : Option (List ℕ)) (a b : List ℕ) → Appends old mid a → Appends mid new b → Appends old new (a ++ b)
appended_both None mid new a b h k = tt
appended_both (Some xs) None new a b h k = absurd h
appended_both (Some xs) (Some ys) None a b h k = absurd k
appended_both (Some xs) (Some ys) (Some zs) a b h k = k ∙ ap (λ s. s ++ b) h ∙ append_assoc xs a b

pub begun_after : (old mid new : Option (List ℕ)) (a b : List ℕ) → Appends old mid a → TakesBeginning mid new b → TakesBeginning old new (a ++ b)
begun_after old mid new a b h k = record {
  taken = a ++ k.taken;
  left = k.left;
  whole = ap (λ s. a ++ s) k.whole ∙ sym (append_assoc a k.taken k.left);
  appended = appended_both old mid new a k.taken h k.appended;
}
