-- Which faults the ports of a run can have.
use Rattle.std.proofs.Common.{◌≡◌, ℕ, List, Err, Ok, Result, ap, inl, inr, map, subst}
use Rattle.std.proofs.lemmas.Bool.{cases_Bool}
use Rattle.std.specs.Prelude.{IfErr, IfOk}
use Rattle.coordinator.proofs.PortFaults.{some-port, steps-faults}
use Rattle.coordinator.specs.Opening.{AllFaithful, OpeningIsRefused}
use Rattle.coordinator.specs.PortFaults.{IsFaultOfPorts}
use Rattle.coordinator.specs.Session.{IsConsistentSession, Running, Session, running}
use Rattle.coordinator.specs.Steps.{StepHasCause}
use Rattle.coordinator.specs.declared.Step.{Step}
use Rattle.coordinator.specs.declared.Step.TheVariants.{Checkpoint, Commit, JudgedCommit, Post, SealedCheckpoint, Take}
use Rattle.coordinator.specs.declared.SessionFault.{SessionFault}
use Rattle.coordinator.specs.declared.SessionFault.TheVariants.{Port, Reports}
use Rattle.disk.specs.Disk.{DiskState}
use Rattle.model.specs.Meaning.{Meaning}
use Rattle.runs.proofs.Drives.{goes_by}
use Rattle.runs.specs.Driver.{IsRefusedIn, Made}
use Rattle.runs.specs.Runs.{IsFaultOverFaithful}
use Rattle.runs.specs.Simulation.{PreparingIsRefused, ReadingIsRefused, as_simulated, of_run}
use Rattle.runs.specs.declared.fault.SimulationFault.{SimulationFault}
use Rattle.runs.specs.declared.over.Finished.{Finished}
use Rattle.runs.specs.declared.rounds.Plan.{Plan}
use Rattle.runs.specs.declared.fault.SimulationFault.TheVariants.{Session as OfSession}
use Rattle.runs.specs.declared.rounds.RunFault.{RunFault}
use Rattle.runs.specs.declared.rounds.RunFault.TheVariants.{NoMemory, Rounds, Session as OfRun, Stopped}
use Rattle.wire.specs.Port.{PortState}
use Rattle.wire.specs.declared.port.PortFault.{PortFault}

module _ {P : Type 0} (state : P → PortState) where
  -- the fault of an opening that was refused
  pub opening_faults : (m : Meaning) (end : ℕ) (image : List (List ℕ)) (ports : List P) (failed : Type 0) (cause : SessionFault) (fault : PortFault) → cause ≡ Port fault → AllFaithful m (map state ports) → OpeningIsRefused m end image (map state ports) failed cause → IsFaultOfPorts state fault
  opening_faults m end image ports failed cause fault is faithful refused =
      let found = (subst (λ (f : SessionFault). OpeningIsRefused m end image (map state ports) failed f) is refused).2 faithful in
      inl (some-port state ports found.0 fault found.2)

  module _ {M D : Type 0} (meaning : M → Meaning) (disk : D → DiskState) where
    -- the fault of a step that was refused, after steps of a consistent session
    pub step_faults : (S : List Made → Type 0) (old new : Session M P D) (fault : PortFault) → IsConsistentSession (running meaning state old) → IsRefusedIn meaning state disk S old new (Port fault) → IsFaultOfPorts state fault
    step_faults S old new fault consistent is =
        let before = (goes_by meaning state disk is.steps old is.mid is.made).made consistent in
        steps-faults state meaning disk is.next is.mid new fault before.consistent is.refused

    -- no step of a consistent session finds reports that are not those of the model
    reports_apart : (next : Step) (r : Running) → IsConsistentSession r → StepHasCause Reports next r → ⊥
    reports_apart JudgedCommit r consistent cause = cause.1 consistent
    reports_apart Commit r consistent cause = cause
    reports_apart Checkpoint r consistent cause = cause
    reports_apart SealedCheckpoint r consistent cause = cause
    reports_apart (Take node) r consistent cause = cause
    reports_apart (Post node picks budget) r consistent cause = cause

    pub step_reports : (S : List Made → Type 0) (old new : Session M P D) → IsConsistentSession (running meaning state old) → IsRefusedIn meaning state disk S old new Reports → ⊥
    step_reports S old new consistent is =
        let before = (goes_by meaning state disk is.steps old is.mid is.made).made consistent in
        elim (cases_Bool is.mid.spent) [
          | inl spent ↦ absurd (let other = is.refused.spent.1 spent in cc)
          | inr usable ↦ reports_apart is.next (running meaning state is.mid) before.consistent (is.refused.cause usable)
        ]

-- an opening finds no reports
pub opening_reports : (m : Meaning) (end : ℕ) (image : List (List ℕ)) (ports : List PortState) (failed : Type 0) (fault : SessionFault) → fault ≡ Reports → OpeningIsRefused m end image ports failed fault → ⊥
opening_reports m end image ports failed fault is refused = subst (λ (f : SessionFault). OpeningIsRefused m end image ports failed f) is refused

-- A simulation has the faults of sessions from its run alone.

pub run_fault : (fault : RunFault) (cause : SessionFault) → of_run fault ≡ OfSession cause → fault ≡ OfRun cause
run_fault (OfRun fault) cause is = cc
run_fault Rounds cause is = absurd (cc)
run_fault (Stopped time events) cause is = absurd (cc)
run_fault NoMemory cause is = absurd (cc)

-- the outcome of a run, by that of a simulation
pub ran_over : (made : Result Finished RunFault) (done : Finished) → as_simulated made ≡ Ok done → made ≡ Ok done
ran_over (Ok own) done is = cc
ran_over (Err fault) done is = absurd (cc)

pub ran_with : (P : Finished → Type 0) (made : Result Finished RunFault) (done : Finished) → as_simulated made ≡ Ok done → IfOk made P → P done
ran_with P made done is h = subst (λ (r : Result Finished RunFault). IfOk r P) (ran_over made done is) h

pub ran_refused : (made : Result Finished RunFault) (cause : SessionFault) → as_simulated made ≡ Err (OfSession cause) → made ≡ Err (OfRun cause)
ran_refused (Ok done) cause is = absurd (cc)
ran_refused (Err fault) cause is = (let own : of_run fault ≡ OfSession cause = cc in ap Err (run_fault fault cause own))

pub not_of_preparing : (image : List (List ℕ)) (failed : Type 0) (fault : SimulationFault) (cause : SessionFault) → fault ≡ OfSession cause → PreparingIsRefused fault image failed → ⊥
not_of_preparing image failed fault cause is refused = subst (λ (f : SimulationFault). PreparingIsRefused f image failed) is refused

pub not_of_reading : (m : Meaning) (end : ℕ) (image : List (List ℕ)) (failed : Type 0) (fault : SimulationFault) (cause : SessionFault) → fault ≡ OfSession cause → ReadingIsRefused m end fault image failed → ⊥
not_of_reading m end image failed fault cause is refused = subst (λ (f : SimulationFault). ReadingIsRefused m end f image failed) is refused

-- the faults of a run over faithful ports, if each of them has fewer
pub faults_so : {Wide Narrow : PortFault → Type 0} {T : Type 0} (m : Meaning) (end : ℕ) (plan : Plan) (image : List (List ℕ)) → ((fault : PortFault) → Wide fault → Narrow fault) → (r : Result T RunFault)
    → IfErr r (IsFaultOverFaithful Wide m end plan image) → IfErr r (IsFaultOverFaithful Narrow m end plan image)
faults_so m end plan image so (Ok done) h = tt
faults_so m end plan image so (Err fault) h = record { port = λ own is. so own (h.port own is); reports = h.reports; rounds = h.rounds }
