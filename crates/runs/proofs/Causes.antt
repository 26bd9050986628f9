-- What a run is, by what its session was driven to.
use Rattle.std.proofs.Common.{◌≡◌, ℕ, List, Err, Ok, Result, ap, arith, inr, length, refl, subst, sym, ◌∙◌}
use Rattle.std.specs.Prelude.{IfErr, IsErrAnd}
use Rattle.coordinator.specs.Session.{Session}
use Rattle.coordinator.specs.declared.SessionFault.{SessionFault}
use Rattle.disk.specs.Disk.{DiskState}
use Rattle.model.specs.Meaning.{Meaning}
use Rattle.recovery.specs.Replay.{IsReplayedTo}
use Rattle.runs.specs.Driver.{AreRoundsOfRun, DrivingHasCause, HasMade, IsDrivenBy, IsDrivenToEnd, IsRunOver, Made, RunHasCause, of_round, trusts_by}
use Rattle.runs.specs.declared.over.Finished.{Finished}
use Rattle.runs.specs.declared.rounds.Plan.{Plan}
use Rattle.runs.specs.declared.rounds.RoundFault.{RoundFault}
use Rattle.runs.specs.declared.rounds.RoundFault.TheVariants as round_fault
use Rattle.runs.specs.declared.rounds.RunFault.{RunFault}
use Rattle.runs.specs.declared.rounds.RunFault.TheVariants.{NoMemory, Rounds, Session as OfSession, Stopped}
use Rattle.wire.specs.Port.{PortState}

module _ {M P D : Type 0} (meaning : M → Meaning) (state : P → PortState) (disk : D → DiskState) (end : ℕ) (plan : Plan) (old new : Session M P D) where
  -- why a session was not driven to the end, if a round was not made to its end
  pub refused_only : {T : Type 0} (r : Result T RunFault) (e : RoundFault) → IsErrAnd r (λ x. x ≡ of_round e) → ((fault : SessionFault) → e ≡ round_fault.Session fault → DrivingHasCause meaning state disk end plan old new (OfSession fault))
      → IfErr r (DrivingHasCause meaning state disk end plan old new)
  refused_only (Ok x) e and refused = tt
  refused_only (Err x) (round_fault.Session fault) and refused = subst (λ (f : RunFault). DrivingHasCause meaning state disk end plan old new f) (sym and) (refused fault refl)
  refused_only (Err x) round_fault.NoMemory and refused = subst (λ (f : RunFault). DrivingHasCause meaning state disk end plan old new f) (sym and) tt

-- a session was opened on a disk, and driven from there
module _ {M P D : Type 0} (meaning : M → Meaning) (state : P → PortState) (disk : D → DiskState) (model : M) (end : ℕ) (plan : Plan) (ports : List PortState) (old new : D) (opened driven : Session M P D)
    (model_is : opened.model ≡ model) (end_is : opened.end ≡ end) (replayed : IsReplayedTo (meaning model) end (disk old).reads opened.front) (left : new ≡ driven.log.disk) where
  has_made : (Shape : List Made → Type 0) → IsDrivenBy meaning state disk (trusts_by plan) Shape opened driven → HasMade meaning state disk model end (trusts_by plan) Shape old new driven.front
  has_made Shape by = record { first = opened; last = driven; same = (model_is, end_is); replayed = replayed; driven = by; front_is = refl; left = left }

  pub over_of : (done : Finished) → IsDrivenToEnd meaning state disk end plan opened driven done.ran.items → done.time ≡ driven.front.time → done.events ≡ length driven.front.log → IsRunOver meaning state disk model end plan old new done
  over_of done by time_is events_are = record {
    rounds = by.rounds;
    last = by.last;
    front = driven.front;
    some = by.some;
    run = has_made _ by.in_rounds;
    each = by.each;
    reached = omega (arith, by.reached, time_is);
    time_is = time_is;
    events_are = events_are;
  }

  pub cause_of : (fault : RunFault) → DrivingHasCause meaning state disk end plan opened driven fault → RunHasCause meaning state disk model end plan ports old new fault
  cause_of (OfSession fault) why = inr (record { first = opened; last = driven; same = (model_is, end_is); replayed = replayed; rounds = why.0; final = why.1; some = why.2; refused = why.3; left = left })
  cause_of Rounds why = record { front = driven.front; run = has_made (AreRoundsOfRun plan end plan.rounds plan.rounds) why.1; early = why.0 }
  cause_of (Stopped time events) why = record { last = why.3.0; fewer = why.3.1; front = driven.front; run = has_made (AreRoundsOfRun plan end why.3.0 why.3.0) why.3.2; early = why.0; time_is = why.1; events_are = why.2 }
  cause_of NoMemory why = tt
