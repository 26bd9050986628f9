-- A step of a session, and lists of steps.
use Rattle.std.specs.Prelude.{Bool, ◌||◌, Err, IfErr, IfOk, IsErrOf, List, Ok, OnOk, Result, Some, [], drop}
use Rattle.std.specs.Prelude.{false, length, map, take, true, ℕ, ◌<◌, ◌∷◌, ◌≡◌, ◌≤◌, ◌↔◌}
use Rattle.disk.specs.Disk.{DiskState}
use Rattle.model.specs.Meaning.{Meaning}
use Rattle.gvt.specs.Moves.{Move, moves_made}
use Rattle.gvt.specs.Sound.{GoesOnFrom}
use Rattle.wire.specs.Port.{PortState}
use Rattle.coordinator.specs.Appending.{AppendsOnly, LeavesOldRecords, StaysDurable}
use Rattle.coordinator.specs.Crashes.{IsTrusted, KeepsRepresentation, StaysWritten}
use Rattle.coordinator.specs.Crashes.{SurvivesCrashes}
use Rattle.coordinator.specs.Session.{HasSameNodes, IsConsistentSession, Running, Session}
use Rattle.coordinator.specs.Session.{system_of, running}
use Rattle.coordinator.specs.Steps.{AreNextReports, IsLogged, IsMade, IsReplyTaken, MayCommit}
use Rattle.coordinator.specs.Steps.{StepHasCause, appended_by, first_refusal, leaves_all, move_of}
use Rattle.coordinator.specs.Steps.{next_time}
use Rattle.coordinator.specs.Steps.{seals, trusts}
use Rattle.coordinator.specs.declared.DriveFault.{DriveFault}
use Rattle.coordinator.specs.declared.SessionFault.{SessionFault}
use Rattle.coordinator.specs.declared.SessionFault.TheVariants.{Disk, Spent}
use Rattle.coordinator.specs.declared.Step.{Step}
use Rattle.coordinator.specs.declared.Step.TheVariants.{JudgedCommit}
use Rattle.gvt.specs.Moves.Move.{Commit as CommitMove, Take as TakeMove}
use Rattle.gvt.specs.declared.Answer.{Answer}
use Rattle.gvt.specs.declared.Answer.TheVariants.{AlreadyAt}

-- These moves of the system state were made, one after another, and the session is consistent.
pub record StepsAreMade (moves : List Move) (old new : Running) : Type 0 where
  pub moves_are : moves_made old.meaning old.end moves (system_of old) ≡ Some (system_of new)
  pub consistent : IsConsistentSession new

-- whether one of these steps trusts the nodes
abbrev pub any_trusts : List Step → Bool
any_trusts [] = false
any_trusts (step ∷ steps) = trusts step || any_trusts steps

module _ {M P D : Type 0} (meaning : M → Meaning) (state : P → PortState) (disk : D →
    DiskState) where
  -- These moves were made between the two, and the disk goes on recovering. If one of the steps
  -- trusted the nodes, this is promised of a consistent session. The records from before stay in
  -- any case.
  pub record Goes (trusted : Bool) (moves : List Move) (old new : Session M P D) : Type 0 where
    pub model_is : new.model ≡ old.model
    pub end_is : new.end ≡ old.end
    pub made : IsConsistentSession (running meaning state old) →
        StepsAreMade moves (running meaning state old) (running meaning state new)
    pub written : StaysWritten meaning (IsTrusted trusted (running meaning state old)) old new
    pub crashes : SurvivesCrashes meaning disk (IsTrusted trusted (running meaning state old))
        old new
    pub durable : StaysDurable disk old new
    pub leaves : LeavesOldRecords disk old new

  -- The contract of `step`, at every exit.
  pub record IsStep (step : Step) (old new : Session M P D)
      (result : Result Answer SessionFault) : Type 0 where
    -- On a consistent session the step is its move of the system state, and returns that move's
    -- numbers.
    pub made : IsConsistentSession (running meaning state old) → IfOk result (λ answer.
        IsMade (move_of step) (running meaning state old) (running meaning state new) answer)
    -- Global virtual time, the floors of the nodes and the front's time never fall.
    pub goes_on : IsConsistentSession (running meaning state old) → OnOk result
        (GoesOnFrom old.end (system_of (running meaning state old))
        (system_of (running meaning state new)))
    -- Which steps are refused, and why, over any ports and any disk.
    pub refused : (fault : SessionFault) → old.spent ≡ false →
        first_refusal old.end (move_of step) (system_of (running meaning state old)) ≡ Some fault →
        result ≡ Err fault
    pub cause : old.spent ≡ false → IfErr result (λ fault.
        StepHasCause fault step (running meaning state old))
    -- A judged commit that moves the front has reports that are those of the front before.
    pub judged : old.spent ≡ false → step ≡ JudgedCommit →
        MayCommit (running meaning state old) →
        OnOk result (AreNextReports (running meaning state old))
    -- A commit with nothing to commit changes nothing.
    pub already : old.spent ≡ false → move_of step ≡ CommitMove →
        next_time old.end (system_of (running meaning state old)) ≤ old.front.time →
        (result ≡ Ok (AlreadyAt old.front.time)) × (new ≡ old)
    -- A take puts what a reply sent in transit and gathers what it reported. Over any ports, all
    -- receivers are processes of the model, and all reported handlings are of the node's own
    -- processes.
    pub taken : (node : ℕ) → move_of step ≡ TakeMove node → IfOk result (λ answer.
        IsReplyTaken node (running meaning state old) (running meaning state new) answer)
    -- A commit that moves the front and a checkpoint append one record, and a sealed checkpoint a
    -- seal after it, if there is room for that; every other step leaves the log. `Full` is returned only
    -- if there is no room for the first record, `Disk` exactly if the device has failed.
    pub logged : IsLogged meaning state disk (move_of step) (seals step) old new result
    -- Over any ports, a crash leaves the records from before, alone or followed by those that the
    -- step appends, or by the first of them.
    pub appends : AppendsOnly disk
        (appended_by (move_of step) (seals step) old.log.records (running meaning state old))
        old new
    -- The records go on representing the front, whatever crashes. Only an unjudged commit trusts the
    -- nodes for this; any other step does it over any ports. The records from before stay in any
    -- case.
    pub keeps : KeepsRepresentation meaning disk
        (IsTrusted (trusts step) (running meaning state old)) old new
    -- After a fault of a port or of the disk, or an allocation failure, the session is spent and
    -- its front unchanged. Any other fault leaves the session unchanged. A spent session refuses
    -- every step.
    pub unchanged : IfErr result (λ fault. leaves_all fault ≡ true → new ≡ old)
    pub spends : IfErr result (λ fault. leaves_all fault ≡ false →
        (new.front ≡ old.front) × (new.spent ≡ true))
    pub usable : OnOk result (new.spent ≡ false)
    pub spent : IsErrOf result Spent ↔ (old.spent ≡ true)
    pub same : (new.model ≡ old.model) × (new.end ≡ old.end)
    pub nodes : HasSameNodes old new

  -- Each of these steps was made, over any ports, from the first session to the last.
  abbrev pub AreSteps : List Step → Session M P D → Session M P D → Type 0
  AreSteps [] old new = new ≡ old
  AreSteps (step ∷ steps) old new = (mid : Session M P D) × (answer : Answer)
      × IsStep step old mid (Ok answer) × AreSteps steps mid new

  -- The steps before the refused one were made, and the next one was refused with this fault.
  pub record IsStopped (steps : List Step) (old new : Session M P D)
      (stop : DriveFault) : Type 0 where
    pub made : Session M P D
    pub next : Step
    pub more : List Step
    pub next_is : drop stop.done steps ≡ next ∷ more
    pub steps_are : AreSteps (take stop.done steps) old made
    pub moves : IsConsistentSession (running meaning state old) →
        StepsAreMade (map move_of (take stop.done steps)) (running meaning state old)
        (running meaning state made)
    pub refused : IsStep next made new (Err stop.fault)

  -- The contract of `drive` for these steps, at every exit.
  pub record IsDrive (steps : List Step) (old new : Session M P D)
      (result : Result ℕ DriveFault) : Type 0 where
    -- On a consistent session the steps are their moves of the system state, one after another.
    pub made : IsConsistentSession (running meaning state old) → OnOk result
        (StepsAreMade (map move_of steps) (running meaning state old) (running meaning state new))
    pub goes_on : IsConsistentSession (running meaning state old) → OnOk result
        (GoesOnFrom old.end (system_of (running meaning state old))
        (system_of (running meaning state new)))
    pub count : IfOk result (λ done. done ≡ length steps)
    -- Over any ports each step is made, up to the first that is refused, whose fault is returned.
    pub linked : OnOk result (AreSteps steps old new)
    pub stopped : IfErr result (λ stop. IsStopped steps old new stop)
    pub usable : old.spent ≡ false → OnOk result (new.spent ≡ false)
    pub spent : old.spent ≡ true → (new ≡ old)
        × (1 ≤ length steps → result ≡ Err (record { done = 0; fault = Spent }))
    -- The device fails during the call exactly if the fault is `Disk`.
    pub failed : IfErr result (λ stop. (stop.fault ≡ Disk) ↔
        ((disk old.log.disk).failures < (disk new.log.disk).failures))
    pub no_failure : OnOk result ((disk new.log.disk).failures ≡ (disk old.log.disk).failures)
    -- The records go on representing the front, whatever crashes, also if a step was refused; over
    -- any ports, if no step is a plain commit. The records from before stay in any case.
    pub keeps : KeepsRepresentation meaning disk
        (IsTrusted (any_trusts steps) (running meaning state old)) old new
    pub same : (new.model ≡ old.model) × (new.end ≡ old.end)
    pub nodes : HasSameNodes old new

  -- Lists of steps were driven one after another on one session, whatever each returned.
  abbrev pub AreDrives : List (List Step) → Session M P D → Session M P D → Type 0
  AreDrives [] old new = new ≡ old
  AreDrives (steps ∷ more) old new = (mid : Session M P D) × (result : Result ℕ DriveFault)
      × IsDrive steps old mid result × AreDrives more mid new
