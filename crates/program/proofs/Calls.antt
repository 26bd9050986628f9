-- Attempts of a run as calls of a history, one after another.
use Rattle.std.proofs.Common.{◌≡◌, ◌∙◌, ℕ, Bool, List, [], ◌∷◌, ◌++◌, Err, Ok, None, Option, Result, OnOk, ap, arith, false, inl, inr, refl, subst, sym, true}
use Rattle.std.specs.Prelude.{◌≢◌, ◌≤◌, IfErr, IfOk, IsOkUnless, OnErr, length, option_map}
use Rattle.segments.specs.Archiving.{IsNextDisk}
use Rattle.runs.specs.Commands.{Numbers, PrintsRun, numbers_of, plain_numbers_of, ran_text, stopped_text}
use Rattle.runs.specs.declared.commands.fault.CommandFault.{CommandFault}
use Rattle.runs.specs.declared.commands.fault.CommandFault.TheVariants as on_disk
use Rattle.coordinator.specs.declared.SessionFault.{SessionFault}
use Rattle.disk.specs.Disk.{DiskState, OnlyLooks}
use Rattle.disk.specs.FileDisks.{FileState, disk_of_file}
use Rattle.disk.specs.Laws.{looks_none}
use Rattle.eventkey.proofs.Writers.{began}
use Rattle.model.specs.Meaning.{Meaning}
use Rattle.model.specs.Origins.{continued}
use Rattle.model.specs.Runner.{Simulation}
use Rattle.model.specs.World.{World}
use Rattle.model.specs.declared.origin.Origin.{Origin}
use Rattle.recovery.proofs.Crashes.{kept-none, looked-under}
use Rattle.recovery.proofs.OldRecords.{keeps_none, keeps_on, looks_at_old}
use Rattle.plain.specs.Runs.{IsRun as IsPlainRun, IsRunOver as IsPlainRunOver, ended as plainly_ended}
use Rattle.plain.specs.declared.PlainFault.{PlainFault}
use Rattle.plain.specs.declared.PlainFault.TheVariants as plain
use Rattle.plain.specs.declared.whole.PlainPlan.{PlainPlan}
use Rattle.plain.specs.declared.whole.Reached.{Reached}
use Rattle.recovery.specs.Histories.{Call, Event, IsHistoryOfCalls, IsKept, IsKeptRun, last_acknowledged}
use Rattle.recovery.specs.Histories.Ending.{Returned}
use Rattle.recovery.specs.Replay.{in_force}
use Rattle.recovery.specs.Runs.{CommitsSimulation, RunEnd, acknowledged}
use Rattle.recovery.specs.Runs.RunEnd.{AtEnd, AtFault, AtStop}
use Rattle.runs.specs.Driver.{IsRunOver, IsStoppedOver, RunHasCause}
use Rattle.runs.specs.Runs.{ended}
use Rattle.runs.specs.declared.over.Finished.{Finished}
use Rattle.runs.specs.declared.rounds.RunFault.{RunFault}
use Rattle.runs.specs.declared.rounds.RunFault.TheVariants as run_fault
use Rattle.runs.specs.declared.rounds.Plan.{Plan}
use Rattle.texts.specs.ModelFile.{IsModelFile}
use Rattle.views.specs.Reading.{BeginsWith}
use Rattle.views.specs.Views.{Describes, Prints}
use Rattle.wire.specs.Port.{PortState}
use Rattle.program.proofs.Printed.{on_ok_so}
use Rattle.program.specs.Attempts.{AreArchived, AreCalls, GoesOnWith, HasCome, IsAttempt, IsAttemptBy, IsCallBy, IsFollowed, IsGoneOn, IsKeptAttempt, IsLastAttempt, IsOnImage, IsRanAsReported, IsRanOn, IsStoppedAsReported, IsStoppedOn, IsTried, IsWholeRun, KeepsAll, KeepsDisk, Stretch, stopped_in}
use Rattle.program.specs.Command.{IsRan, IsRanAs, IsRanBehind, IsStoppedAs, IsStoppedBehind, IsStoppedText, IsWithoutOutput}
use Rattle.program.specs.declared.attempts.Next.{Next}
use Rattle.program.specs.declared.attempts.Next.TheVariants.{Other, Same}

-- 1. One attempt

-- a disk that is only looked at
pub looks_keep : (on : Meaning) (old new : DiskState) → OnlyLooks old new → KeepsAll on old new
looks_keep on old new looks = record { call = λ v. record { crashes = looked-under on v.time old new looks; front = λ recovers s is. absurd (cc) }; records = looks_at_old old new looks }

pub same_keeps : (on : Meaning) (disk : DiskState) → KeepsAll on disk disk
same_keeps on disk = looks_keep on disk disk (looks_none disk)

-- a writer's refusal is the only fault of what was written
only_output : {T : Type 0} (r : Result T CommandFault) (fault : CommandFault) → IsOkUnless r on_disk.Output → r ≡ Err fault → fault ≡ on_disk.Output
only_output (Ok x) fault unless is = absurd cc
only_output (Err own) fault unless is = (let same : own ≡ fault = cc in sym same ∙ unless)

not_ok : {T E : Type 0} (X : Type 0) (r : Result T E) (fault : E) → r ≡ Err fault → OnOk r X
not_ok X (Ok x) fault is = absurd cc
not_ok X (Err e) fault is = tt

-- what is printed of a run, by its numbers, or by its fault
tried_by : (Ran Stopped : List ℕ → Type 0) (numbers : Result Numbers CommandFault) (outcome : Result (Unit {0}) CommandFault) (same : Type 0) (before after : Option (List ℕ)) → IfOk numbers (λ run. Ran (ran_text run.ran run.time run.events))
    → ((time events : ℕ) → numbers ≡ Err (on_disk.Stopped time events) → Stopped (stopped_text time events)) → IfErr numbers (λ fault. fault ≢ on_disk.Output) → PrintsRun numbers outcome same before after → IsTried Ran Stopped outcome same before after
tried_by Ran Stopped (Ok run) outcome same before after ran stopped other printed = record {
  printed = on_ok_so outcome (λ taken. (ran_text run.ran run.time run.events, ran, taken)) printed.0.all;
  output = λ e. (ran_text run.ran run.time run.events, ran, began printed.0 e);
  unwritten = λ f e no. absurd (no (only_output outcome f printed.1 e));
  stopped = λ time events e. absurd (let no = only_output outcome (on_disk.Stopped time events) printed.1 e in cc);
}
tried_by Ran Stopped (Err own) outcome same before after ran stopped other printed = record {
  printed = not_ok (Prints Ran before after) outcome own printed.0;
  output = λ e. absurd (let is = sym printed.0 ∙ e in other cc);
  unwritten = λ f e no. printed.1;
  stopped = λ time events e. (let is = sym printed.0 ∙ e in let own_is : own ≡ on_disk.Stopped time events = cc in stopped time events (ap Err own_is));
}

-- how a run ended, by its numbers, or by its fault
abbrev end_by : Result Numbers CommandFault → RunEnd
end_by (Ok run) = AtEnd run.time run.events
end_by (Err (on_disk.Stopped time events)) = AtStop time events
end_by (Err fault) = AtFault

stopped_same : (fault : CommandFault) → acknowledged (end_by (Err fault)) ≡ stopped_in fault
stopped_same on_disk.NoMemory = refl
stopped_same (on_disk.Log f) = refl
stopped_same (on_disk.Recovery f) = refl
stopped_same (on_disk.Session f) = refl
stopped_same on_disk.Rounds = refl
stopped_same (on_disk.Stopped time events) = refl
stopped_same (on_disk.Migrate f) = refl
stopped_same on_disk.Output = refl

-- an attempt that commits the sequential simulation
module _ (on : Meaning) (end nodes : ℕ) (old new : DiskState) (before after : Option (List ℕ)) where
  kept_by : (numbers : Result Numbers CommandFault) (outcome : Result (Unit {0}) CommandFault) (same : Type 0) (v : World) → PrintsRun numbers outcome same before after → IsKeptRun on end v old new (acknowledged (end_by numbers)) → IsKeptAttempt on end v old new before after outcome
  kept_by (Ok run) outcome same v printed kept = inl (run.ran, run.time, run.events, printed.0, kept)
  kept_by (Err fault) outcome same v printed kept = inr (fault, printed.0, subst (IsKeptRun on end v old new) (stopped_same fault) kept)

  ran_on : (numbers : Result Numbers CommandFault) → IfOk numbers (λ run. (length run.ran ≡ nodes) × (end ≤ run.time)) → CommitsSimulation on end old new (end_by numbers) → IfOk numbers (λ run. IsRanOn on end nodes old new (ran_text run.ran run.time run.events))
  ran_on (Ok run) whole commits = record { ran = run.ran; time = run.time; events = run.events; each = whole.0; reached = whole.1; kept = commits.kept; genuine = λ genuine. (commits.genuine genuine).0; is = refl }
  ran_on (Err fault) whole commits = tt

  stopped_on : (numbers : Result Numbers CommandFault) → CommitsSimulation on end old new (end_by numbers) → (time events : ℕ) → numbers ≡ Err (on_disk.Stopped time events) → IsStoppedOn on end old new (stopped_text time events)
  stopped_on numbers commits time events is =
      let stopped : CommitsSimulation on end old new (AtStop time events) = subst (λ (r : Result Numbers CommandFault). CommitsSimulation on end old new (end_by r)) is commits in
      record { time = time; events = events; kept = stopped.kept; genuine = λ genuine. (stopped.genuine genuine).0; is = refl }

  pub attempt_is : (numbers : Result Numbers CommandFault) (outcome : Result (Unit {0}) CommandFault) (same : Type 0) → IfOk numbers (λ run. (length run.ran ≡ nodes) × (end ≤ run.time)) → IfErr numbers (λ fault. fault ≢ on_disk.Output) → CommitsSimulation on end old new (end_by numbers)
      → PrintsRun numbers outcome same before after → IsAttempt on end nodes old new outcome same before after
  attempt_is numbers outcome same whole other commits printed = record {
    tried = tried_by (IsRanOn on end nodes old new) (IsStoppedOn on end old new) numbers outcome same before after (ran_on numbers whole commits) (stopped_on numbers commits) other printed;
    kept = λ v. kept_by numbers outcome same v printed (commits.kept v);
  }

-- a run over nodes, as what is printed of it
ended_same : (made : Result Finished RunFault) → ended made ≡ end_by (numbers_of made)
ended_same (Ok done) = refl
ended_same (Err (run_fault.Session f)) = refl
ended_same (Err run_fault.Rounds) = refl
ended_same (Err (run_fault.Stopped time events)) = refl
ended_same (Err run_fault.NoMemory) = refl

of_a_run : (made : Result Finished RunFault) → IfErr (numbers_of made) (λ fault. fault ≢ on_disk.Output)
of_a_run (Ok done) = tt
of_a_run (Err (run_fault.Session f)) = λ is. cc
of_a_run (Err run_fault.Rounds) = λ is. cc
of_a_run (Err (run_fault.Stopped time events)) = λ is. cc
of_a_run (Err run_fault.NoMemory) = λ is. cc

stop_is : (made : Result Finished RunFault) (time events : ℕ) → numbers_of made ≡ Err (on_disk.Stopped time events) → made ≡ Err (run_fault.Stopped time events)
stop_is (Ok done) time events is = absurd (cc)
stop_is (Err (run_fault.Session f)) time events is = absurd (cc)
stop_is (Err run_fault.Rounds) time events is = absurd (cc)
stop_is (Err (run_fault.Stopped t n)) time events is = cc
stop_is (Err run_fault.NoMemory) time events is = absurd (cc)

module _ {M P D : Type 0} (meaning : M → Meaning) (state : P → PortState) (disk : D → DiskState) (model : M) (end : ℕ) (plan : Plan) (begun left : D) (made : Result Finished RunFault) (outcome : Result (Unit {0}) CommandFault) (same : Type 0) (before after : Option (List ℕ))
    (over : IfOk made (IsRunOver meaning state disk model end plan begun left)) (printed : PrintsRun (numbers_of made) outcome same before after) where
  whole_by : (r : Result Finished RunFault) → IfOk r (IsRunOver meaning state disk model end plan begun left) → IfOk (numbers_of r) (λ run. (length run.ran ≡ plan.nodes) × (end ≤ run.time))
  whole_by (Ok done) is = (is.each, is.reached)
  whole_by (Err fault) is = tt

  pub attempt_of : CommitsSimulation (meaning model) end (disk begun) (disk left) (ended made) → IsAttempt (meaning model) end plan.nodes (disk begun) (disk left) outcome same before after
  attempt_of commits =
      attempt_is (meaning model) end plan.nodes (disk begun) (disk left) before after (numbers_of made) outcome same (whole_by made over) (of_a_run made)
      (subst (CommitsSimulation (meaning model) end (disk begun) (disk left)) (ended_same made) commits) printed

  -- over node programs that are trusted
  reported_by : (r : Result Finished RunFault) → IfOk r (IsRunOver meaning state disk model end plan begun left) → IfOk (numbers_of r) (λ run. IsRanAsReported end plan.nodes (ran_text run.ran run.time run.events))
  reported_by (Ok done) is = record { ran = done.ran.items; time = done.time; events = done.events; each = is.each; reached = is.reached; is = refl }
  reported_by (Err fault) is = tt

  pub reported_is : (ports : List PortState) → IfErr made (RunHasCause meaning state disk model end plan ports begun left) → IsTried (IsRanAsReported end plan.nodes) (IsStoppedAsReported end) outcome same before after
  reported_is ports cause =
      tried_by (IsRanAsReported end plan.nodes) (IsStoppedAsReported end) (numbers_of made) outcome same before after (reported_by made over)
      (λ time events is.
      let stop : IsStoppedOver meaning state disk model end plan begun left time events = subst (λ (r : Result Finished RunFault). IfErr r (RunHasCause meaning state disk model end plan ports begun left)) (stop_is made time events is) cause in
      record { time = time; events = events; early = omega (arith, stop.early, stop.time_is); is = refl })
      (of_a_run made) printed

-- a run without nodes
ended_plainly : (made : Result Reached PlainFault) → plainly_ended made ≡ end_by (plain_numbers_of made)
ended_plainly (Ok done) = refl
ended_plainly (Err (plain.Recovery f)) = refl
ended_plainly (Err plain.NumberLimit) = refl
ended_plainly (Err plain.TooLong) = refl
ended_plainly (Err plain.Full) = refl
ended_plainly (Err plain.Disk) = refl
ended_plainly (Err plain.Commits) = refl
ended_plainly (Err (plain.Stopped time events)) = refl
ended_plainly (Err plain.NoMemory) = refl

of_a_plain_run : (made : Result Reached PlainFault) → IfErr (plain_numbers_of made) (λ fault. fault ≢ on_disk.Output)
of_a_plain_run (Ok done) = tt
of_a_plain_run (Err (plain.Recovery f)) = λ is. cc
of_a_plain_run (Err plain.NumberLimit) = λ is. cc
of_a_plain_run (Err plain.TooLong) = λ is. cc
of_a_plain_run (Err plain.Full) = λ is. cc
of_a_plain_run (Err plain.Disk) = λ is. cc
of_a_plain_run (Err plain.Commits) = λ is. cc
of_a_plain_run (Err (plain.Stopped time events)) = λ is. cc
of_a_plain_run (Err plain.NoMemory) = λ is. cc

module _ {M D : Type 0} (meaning : M → Meaning) (disk : D → DiskState) (model : M) (end : ℕ) (plan : PlainPlan) (begun left : D) where
  whole_plainly : (r : Result Reached PlainFault) → IfOk r (IsPlainRunOver meaning disk model end plan begun left) → IfOk (plain_numbers_of r) (λ run. (length run.ran ≡ 0) × (end ≤ run.time))
  whole_plainly (Ok done) is = (refl, is.reached)
  whole_plainly (Err fault) is = tt

  pub attempt_plain : (made : Result Reached PlainFault) (outcome : Result (Unit {0}) CommandFault) (same : Type 0) (before after : Option (List ℕ)) → IsPlainRun meaning disk model end plan begun left made → PrintsRun (plain_numbers_of made) outcome same before after
      → IsAttempt (meaning model) end 0 (disk begun) (disk left) outcome same before after
  attempt_plain made outcome same before after run printed =
      attempt_is (meaning model) end 0 (disk begun) (disk left) before after (plain_numbers_of made) outcome same (whole_plainly made run.over) (of_a_plain_run made)
      (subst (CommitsSimulation (meaning model) end (disk begun) (disk left)) (ended_plainly made) run.simulation) printed

-- an attempt that lost a node before its session has printed nothing, and left the disk
lost_tried : (Ran Stopped : List ℕ → Type 0) (before after : Option (List ℕ)) (same : Type 0) (f : SessionFault) → same → IsTried {T = Unit {0}} Ran Stopped (Err (on_disk.Session f)) same before after
lost_tried Ran Stopped before after same f unchanged = record {
  printed = tt;
  output = λ e. cc;
  unwritten = λ g e other. unchanged;
  stopped = λ time events e. cc;
}

pub lost_attempt : (trusts : Bool) (on : Meaning) (end nodes : ℕ) (disk : DiskState) (same : Type 0) (before after : Option (List ℕ)) (f : SessionFault) → same → IsAttemptBy trusts on end nodes disk disk (Err (on_disk.Session f)) same before after
lost_attempt true on end nodes disk same before after f unchanged = record { tried = lost_tried (IsRanAsReported end nodes) (IsStoppedAsReported end) before after same f unchanged; records = keeps_none disk }
lost_attempt false on end nodes disk same before after f unchanged = record {
  tried = lost_tried (IsRanOn on end nodes disk disk) (IsStoppedOn on end disk disk) before after same f unchanged;
  kept = λ v. inr (on_disk.Session f, refl, kept-none on end v disk disk (looked-under on v.time disk disk (looks_none disk)));
}

-- 2. What follows an attempt

-- an attempt is a call that acknowledges some front, or none
module _ (on : Meaning) (end : ℕ) (v : World) (old left : DiskState) where
  of_run : (returned : Option (ℕ × ℕ)) → IsKeptRun on end v old left returned → (front : Option Simulation) × IsKept on v (record { begun = old; ended = left; front = front })
  of_run returned run = (option_map (λ (w : World). in_force end w) run.front, run.kept)

  pub as_call : (before after : Option (List ℕ)) (outcome : Result (Unit {0}) CommandFault) → IsKeptAttempt on end v old left before after outcome → (front : Option Simulation) × IsKept on v (record { begun = old; ended = left; front = front })
  as_call before after outcome kept = elim kept [
    | inl ended ↦ of_run _ ended.4
    | inr stopped ↦ of_run _ stopped.2
  ]

module _ (on : Meaning) (end nodes : ℕ) (old left : DiskState) (outcome : Result (Unit {0}) CommandFault) (same : Type 0) (before after : Option (List ℕ)) where
  unwritten_by : (trusts : Bool) → IsAttemptBy trusts on end nodes old left outcome same before after → IsWithoutOutput outcome → same
  unwritten_by true attempt without = attempt.tried.unwritten without.0 without.1 without.2
  unwritten_by false attempt without = attempt.tried.unwritten without.0 without.1 without.2

  called_by : (trusts : Bool) → IsAttemptBy trusts on end nodes old left outcome same before after → IsCallBy trusts on old left
  called_by true attempt = attempt.records
  called_by false attempt = λ v. as_call on end v old left before after outcome (attempt.kept v)

  pub goes_on_by : {E : Type 0} (trusts : Bool) (r : Result Next E) → IsAttemptBy trusts on end nodes old left outcome same before after → OnOk r (IsWithoutOutput outcome) → IfOk r (GoesOnWith on end left) → IfOk r (λ next. same × IsFollowed trusts on end old next)
  goes_on_by trusts (Ok next) attempt without goes_on = (unwritten_by trusts attempt without, record { left = left; attempt = called_by trusts attempt; goes_on = goes_on })
  goes_on_by trusts (Err e) attempt without goes_on = tt

  last_of : (trusts : Bool) (new : DiskState) (own : Result (Unit {0}) CommandFault) → IsAttemptBy trusts on end nodes old left outcome same before after → own ≡ outcome → KeepsAll on left new → IsLastAttempt trusts on end nodes old new own same before after
  last_of trusts new own attempt is rest = record { left = left; attempt = subst (λ (o : Result (Unit {0}) CommandFault). IsAttemptBy trusts on end nodes old left o same before after) (sym is) attempt; rest = rest }

  pub last_by : {E : Type 0} (disk : E → DiskState) (own : E → Result (Unit {0}) CommandFault) (trusts : Bool) (r : Result Next E) → IsAttemptBy trusts on end nodes old left outcome same before after → IfErr r (λ last. own last ≡ outcome) → IfErr r (λ last. KeepsAll on left (disk last))
      → IfErr r (λ last. IsLastAttempt trusts on end nodes old (disk last) (own last) same before after)
  last_by disk own trusts (Ok next) attempt is rest = tt
  last_by disk own trusts (Err last) attempt is rest = last_of trusts (disk last) (own last) attempt is rest

  -- the same, of a simulation that is this one
  pub next_after : {E : Type 0} (real : Meaning) (trusts : Bool) (r : Result Next E) → on ≡ real → IsAttemptBy trusts on end nodes old left outcome same before after → OnOk r (IsWithoutOutput outcome) → IfOk r (GoesOnWith on end left) → IfOk r (λ next. same × IsFollowed trusts real end old next)
  next_after real trusts r is attempt without goes_on = subst (λ (m : Meaning). IfOk r (λ next. same × IsFollowed trusts m end old next)) is (goes_on_by trusts r attempt without goes_on)

  pub last_after : {E : Type 0} (disk : E → DiskState) (own : E → Result (Unit {0}) CommandFault) (real : Meaning) (trusts : Bool) (r : Result Next E) → on ≡ real → IsAttemptBy trusts on end nodes old left outcome same before after → IfErr r (λ last. own last ≡ outcome) → IfErr r (λ last. KeepsAll on left (disk last))
      → IfErr r (λ last. IsLastAttempt trusts real end nodes old (disk last) (own last) same before after)
  last_after disk own real trusts r is attempt same_outcome rest = subst (λ (m : Meaning). IfErr r (λ last. IsLastAttempt trusts m end nodes old (disk last) (own last) same before after)) is (last_by disk own trusts r attempt same_outcome rest)

-- what an attempt has made is the last one of a run, of a simulation that is this one
pub made_last : {E F : Type 0} (disk : E → DiskState) (own : E → Result (Unit {0}) CommandFault) (on real : Meaning) (end nodes : ℕ) (old : DiskState) (same : Type 0) (before after : Option (List ℕ)) (trusts : Bool) (r : Result E F) → on ≡ real
    → IfOk r (λ e. IsAttemptBy trusts on end nodes old (disk e) (own e) same before after) → IfOk r (λ e. IsLastAttempt trusts real end nodes old (disk e) (own e) same before after)
made_last disk own on real end nodes old same before after trusts (Ok e) is attempt = subst (λ (m : Meaning). IsLastAttempt trusts m end nodes old (disk e) (own e) same before after) is (record { left = disk e; attempt = attempt; rest = same_keeps on (disk e) })
made_last disk own on real end nodes old same before after trusts (Err f) is attempt = tt

-- the simulation of a model that begins with an origin
pub continued_as : {M : Type 0} (meaning : M → Meaning) {a b : M} {o p : Option Origin} → a ≡ b → o ≡ p → continued (meaning a) o ≡ continued (meaning b) p
continued_as meaning {b} {o} e f = ap (λ x. continued (meaning x) o) e ∙ ap (λ (q : Option Origin). continued (meaning b) q) f

-- 3. One call more

abbrev returned : Call → Event
returned c = record { call = c; ending = Returned }

history_then : (m : Meaning) (v w : World) (disk mid : DiskState) (events : List Event) (c : Call) → IsHistoryOfCalls m v disk events w mid → c.begun ≡ mid → IsKept m w c
    → IsHistoryOfCalls m v disk (events ++ returned c ∷ []) (last_acknowledged w Returned c) c.ended
history_then m v w disk mid [] c history begun kept = (
  begun ∙ history.1,
  subst (λ (u : World). IsKept m u c) history.0 kept,
  (c.ended, λ image left. left, (ap (λ (u : World). last_acknowledged u Returned c) history.0, refl)),
)
history_then m v w disk mid (e ∷ es) c history begun kept = (
  history.0,
  history.1,
  (history.2.0, history.2.1, history_then m (last_acknowledged v e.ending e.call) w history.2.0 mid es c history.2.2 begun kept),
)

call_more : (m : Meaning) (v : World) (old mid new : DiskState) → AreCalls m v old mid → ((w : World) → (front : Option Simulation) × IsKept m w (record { begun = mid; ended = new; front = front })) → AreCalls m v old new
call_more m v old mid new calls call =
    let next = call calls.last in
    record {
      events = calls.events ++ returned (record { begun = mid; ended = new; front = next.0 }) ∷ [];
      last = last_acknowledged calls.last Returned (record { begun = mid; ended = new; front = next.0 });
      history = history_then m v calls.last old mid calls.events (record { begun = mid; ended = new; front = next.0 }) calls.history refl next.1;
    }

no_calls : (m : Meaning) (v : World) (disk : DiskState) → AreCalls m v disk disk
no_calls m v disk = record { events = []; last = v; history = (refl, refl) }

-- a part of a run on one disk, with an attempt more, and with what only keeps it
kept_first : (trusts : Bool) (m : Meaning) (disk : DiskState) → KeepsDisk trusts m disk disk
kept_first true m disk = keeps_none disk
kept_first false m disk = λ v. no_calls m v disk

kept_more : (trusts : Bool) (m : Meaning) (old mid new : DiskState) → KeepsDisk trusts m old mid → IsCallBy trusts m mid new → KeepsDisk trusts m old new
kept_more true m old mid new keeps call = keeps_on old mid new keeps call
kept_more false m old mid new keeps call = λ v. call_more m v old mid new (keeps v) call

kept_on : (trusts : Bool) (m : Meaning) (old mid new : DiskState) → KeepsDisk trusts m old mid → KeepsAll m mid new → KeepsDisk trusts m old new
kept_on true m old mid new keeps rest = keeps_on old mid new keeps rest.records
kept_on false m old mid new keeps rest = λ v. call_more m v old mid new (keeps v) (λ w. (None, rest.call w))

-- 4. The disks of a run

archived_then : (trusts : Bool) (m : Meaning) (end : ℕ) (old : DiskState) (before : List Stretch) (s : Stretch) (next : DiskState) → AreArchived trusts m end old before s.old → IsOnImage m s.old.reads s.on → KeepsDisk trusts s.on s.old s.new → IsNextDisk s.on end s.new.reads next
    → AreArchived trusts m end old (before ++ s ∷ []) next
archived_then trusts m end old [] s next are is_on keeps follows = (are, subst (λ (d : DiskState). IsOnImage m d.reads s.on) are is_on, keeps, (next, follows, refl))
archived_then trusts m end old (b ∷ bs) s next are is_on keeps follows = (are.0, are.1, are.2, (are.3.0, are.3.1, archived_then trusts m end are.3.0 bs s next are.3.2 is_on keeps follows))

module _ (trusts : Bool) (m : Meaning) (end : ℕ) (old : DiskState) where
  pub come_first : (origin : Option Origin) → BeginsWith m.lps old.reads origin → HasCome trusts m end old origin old
  come_first origin begins = record { archived = []; begun = old; are_archived = refl; begins = begins; keeps = kept_first trusts (continued m origin) old }

  come_more : (origin : Option Origin) (now left new : DiskState) → HasCome trusts m end old origin now → IsCallBy trusts (continued m origin) now left → KeepsAll (continued m origin) left new → HasCome trusts m end old origin new
  come_more origin now left new come attempt rest = record {
    archived = come.archived;
    begun = come.begun;
    are_archived = come.are_archived;
    begins = come.begins;
    keeps = kept_on trusts (continued m origin) come.begun left new (kept_more trusts (continued m origin) come.begun now left come.keeps attempt) rest;
  }

  come_next : (origin first : Option Origin) (now left next new : DiskState) → HasCome trusts m end old origin now → IsCallBy trusts (continued m origin) now left → IsNextDisk (continued m origin) end left.reads next → BeginsWith m.lps new.reads first → OnlyLooks next new
      → HasCome trusts m end old first new
  come_next origin first now left next new come attempt follows begins looks =
      let last : Stretch = record { on = continued m origin; old = come.begun; new = left } in
      record {
        archived = come.archived ++ last ∷ [];
        begun = next;
        are_archived = archived_then trusts m end old come.archived last next come.are_archived (origin, (come.begins, refl)) (kept_more trusts (continued m origin) come.begun now left come.keeps attempt) follows;
        begins = subst (λ (image : List (List ℕ)). BeginsWith m.lps image first) looks.same begins;
        keeps = kept_on trusts (continued m first) next next new (kept_first trusts (continued m first) next) (looks_keep (continued m first) next new looks);
      }

  gone_on : (origin first : Option Origin) (now : DiskState) (next : Next) (new : FileState) → HasCome trusts m end old origin now → IsFollowed trusts (continued m origin) end now next → IsGoneOn m.lps origin next new first → HasCome trusts m end old first (disk_of_file new)
  gone_on origin first now (Same disk) new come followed is =
      subst (λ (o : Option Origin). HasCome trusts m end old o (disk_of_file new)) (sym is.1)
      (subst (λ (d : FileState). HasCome trusts m end old origin (disk_of_file d)) (sym is.0) (come_more origin now followed.left (disk_of_file disk) come followed.attempt followed.goes_on))
  gone_on origin first now (Other disk) new come followed is = come_next origin first now followed.left (disk_of_file disk) (disk_of_file new) come followed.attempt followed.goes_on is.0 is.1

  -- after the attempts before it, which have printed nothing, the last one ends the run
  pub run_after : {A : Type 0} (contents : A → Option (List ℕ)) (first mid last : A) (origin given : Option Origin) (nodes : ℕ) (now new : DiskState) (outcome : Result (Unit {0}) CommandFault) → mid ≡ first → given ≡ origin → HasCome trusts m end old origin now
      → IsLastAttempt trusts (continued m given) end nodes now new outcome (last ≡ mid) (contents mid) (contents last) → IsWholeRun trusts m end nodes old new outcome (last ≡ first) (contents first) (contents last)
  run_after {A} contents first mid last origin given nodes now new outcome unprinted is come ended = record {
    origin = origin;
    now = now;
    come = come;
    last = subst (λ (a : A). IsLastAttempt trusts (continued m origin) end nodes now new outcome (last ≡ a) (contents a) (contents last)) unprinted
        (subst (λ (o : Option Origin). IsLastAttempt trusts (continued m o) end nodes now new outcome (last ≡ mid) (contents mid) (contents last)) is ended);
  }

  -- and after one more attempt the run has come to the next disk
  pub come_after : (origin given first : Option Origin) (now : DiskState) (next : Next) (new : FileState) → given ≡ origin → HasCome trusts m end old origin now → IsFollowed trusts (continued m given) end now next → IsGoneOn m.lps origin next new first
      → HasCome trusts m end old first (disk_of_file new)
  come_after origin given first now next new is come followed gone =
      gone_on origin first now next new come (subst (λ (o : Option Origin). IsFollowed trusts (continued m o) end now next) is followed) gone

ok_is : {T E : Type 0} {x y : T} → ◌≡◌ {A = Result T E} (Ok x) (Ok y) → x ≡ y
ok_is e = cc

err_is : {T E : Type 0} {x y : E} → ◌≡◌ {A = Result T E} (Err x) (Err y) → x ≡ y
err_is e = cc

pub of_ok : {T E : Type 0} (P : T → Type 0) (r : Result T E) {x : T} → r ≡ Ok x → IfOk r P → P x
of_ok P (Ok x) e h = subst P (ok_is e) h
of_ok P (Err f) e h = absurd (cc)

pub of_err : {T E : Type 0} (P : E → Type 0) (r : Result T E) {f : E} → r ≡ Err f → IfErr r P → P f
of_err P (Ok x) e h = absurd (cc)
of_err P (Err f) e h = subst P (err_is e) h

pub if_ok_so : {T E : Type 0} {P Q : T → Type 0} (r : Result T E) → ((x : T) → P x → Q x) → IfOk r P → IfOk r Q
if_ok_so (Ok x) so h = so x h
if_ok_so (Err f) so h = tt

pub on_err_so : {T E X Y : Type 0} (r : Result T E) → (X → Y) → OnErr r X → OnErr r Y
on_err_so (Ok x) so h = tt
on_err_so (Err f) so h = so h

-- 5. What a run prints of the model of a file

tried_as : {T : Type 0} (Ran Own Stopped Ended : List ℕ → Type 0) (outcome : Result T CommandFault) (same : Type 0) (old new : Option (List ℕ)) → ((text : List ℕ) → Ran text → Own text) → ((text : List ℕ) → Stopped text → Ended text) → IsTried Ran Stopped outcome same old new
    → IsTried Own Ended outcome same old new
tried_as Ran Own Stopped Ended outcome same old new ran stopped tried = record {
  printed = on_ok_so outcome (λ (p : Prints Ran old new). (p.0, ran p.0 p.1, p.2)) tried.printed;
  output = λ e. (let p = tried.output e in (p.0, ran p.0 p.1, p.2));
  unwritten = tried.unwritten;
  stopped = λ time events e. stopped (stopped_text time events) (tried.stopped time events e);
}

pub run_tried : {M : Type 0} (meaning : M → Meaning) (says : Describes M) (source : List ℕ) (model : M) (end : ℕ) (file : IsModelFile says source model end) (trusts : Bool) (nodes : ℕ) (begun new : DiskState) (outcome : Result (Unit {0}) CommandFault) (same : Type 0) (before after : Option (List ℕ))
    → IsWholeRun trusts (meaning model) end nodes begun new outcome same before after → IsTried (IsRanAs meaning says trusts nodes) (IsStoppedAs meaning says trusts) outcome same before after
run_tried meaning says source model end file true nodes begun new outcome same before after run = tried_as (IsRanAsReported end nodes) (IsRanBehind says nodes) (IsStoppedAsReported end) (IsStoppedBehind says) outcome same before after
    (λ text is. record { source = source; model = model; end = end; file = file; ran = is }) (λ text is. record { source = source; model = model; end = end; file = file; stopped = is }) run.last.attempt.tried
run_tried meaning says source model end file false nodes begun new outcome same before after run =
    let last = run.last in
    let on = continued (meaning model) run.origin in
    tried_as (IsRanOn on end nodes run.now last.left) (IsRan meaning says nodes) (IsStoppedOn on end run.now last.left) (IsStoppedText meaning says) outcome same before after
    (λ text is. record { source = source; model = model; end = end; file = file; begun = begun; origin = run.origin; now = run.now; come = run.come; left = last.left; ran = is })
    (λ text is. record { source = source; model = model; end = end; file = file; begun = begun; origin = run.origin; now = run.now; come = run.come; left = last.left; stopped = is }) last.attempt.tried
