use Rattle.std.proofs.Common.{◌≡◌, ◌≤◌, ◌∙◌, Err, List, Result, Some, ℕ, ap, arith, refl, subst, sym}
use Rattle.std.specs.Prelude.{IfErr}
use Rattle.coordinator.specs.PortFaults.{IsFaultInProgram}
use Rattle.coordinator.specs.declared.SessionFault.TheVariants.{Port}
use Rattle.runs.specs.declared.fault.SimulationFault.TheVariants.{Session}
use Rattle.runs.proofs.Faults.{not_of_preparing, not_of_reading, ran_refused, ran_with}
use Rattle.runs.proofs.Kept.{ran_to}
use Rattle.runs.specs.Driver.{IsRunOver}
use Rattle.runs.specs.Runs.{IsFaultOverFaithful}
use Rattle.wire.specs.Local.{state_by}
use Rattle.runs.specs.declared.over.Finished.{Finished}
use Rattle.runs.specs.declared.rounds.RunFault.{RunFault}
use Rattle.recovery.specs.Front.{world_of}
use Rattle.recovery.proofs.Crashes.{recovers-genuine, looked-keeps}
use Rattle.recovery.specs.Crashes.{KeepsUnderItsEnd, RecoversUnderItsEnd}
use Rattle.recovery.specs.Histories.{IsKeptRun}
use Rattle.recovery.specs.Replay.{in_force}
use Rattle.recovery.specs.Represents.{IsGenuine, Recovers, Represents}
use Rattle.disk.specs.Laws.{reads_left}
use Rattle.model.specs.Runner.{Simulation}
use Rattle.model.specs.World.{IsUpto}
use Rattle.runs.proofs.Left.{at_end, exactly_recovers, genuine-under-its-end, kept-call, looked-after, made_so, one_by_one, prepared-under, prepared_genuine, run-keeps, run-keeps-to, then-under, then_so}
use Rattle.runs.proofs.simulating.simulate.Goals as goal

pub returns-in-Err-clause-crashes : goal.returns-in-Err-clause-crashes
returns-in-Err-clause-crashes g c = c.prepare.ensures.crashes (g.M.Model.meaning c.args.model.now) c.args.end

pub returns-in-Err-clause-any_moment : goal.returns-in-Err-clause-any_moment
returns-in-Err-clause-any_moment g c = λ in_sync blank.
    made_so (g.M.Model.meaning c.args.model.now) c.args.end (g.D.SectorDisk.state c.args.disk) (g.D.SectorDisk.state c.prepare.new.disk) (c.prepare.ensures.any_moment in_sync blank c.requires.possible.ends)

pub returns-in-Err-outcome-clause-crashes : goal.returns-in-Err-outcome-clause-crashes
returns-in-Err-outcome-clause-crashes g c = λ a recovers.
    one_by_one (g.M.Model.meaning c.args.model.now) c.args.end a (g.D.SectorDisk.state c.args.disk) (g.D.SectorDisk.state c.prepare.new.disk) (g.D.SectorDisk.state c.run-disk.result.disk)
    (c.prepare.ensures.crashes (g.M.Model.meaning c.args.model.now) c.args.end a recovers) (c.run-disk.ensures.run.1.simulation.crashes a)

pub returns-in-Err-outcome-clause-any_moment : goal.returns-in-Err-outcome-clause-any_moment
returns-in-Err-outcome-clause-any_moment g c = λ in_sync blank.
    let m = g.M.Model.meaning c.args.model.now in
    let made = g.D.SectorDisk.state c.prepare.new.disk in
    then_so m c.args.end (g.D.SectorDisk.state c.args.disk) made (g.D.SectorDisk.state c.run-disk.result.disk)
    (made_so m c.args.end (g.D.SectorDisk.state c.args.disk) made (c.prepare.ensures.any_moment in_sync blank c.requires.possible.ends))
    (c.run-disk.ensures.run.1.simulation.crashes 0 (exactly_recovers m c.args.end made (c.in_default.ensures.made blank c.requires.possible.ends)))

pub returns-in-Err-clause-simulated : goal.returns-in-Err-clause-simulated
returns-in-Err-clause-simulated g c = λ genuine. record {
  finished = tt;
  represents = tt;
  committed = tt;
  faults = λ fault is. absurd (not_of_preparing _ _ c.in-Err.fault (Port fault) (cc) c.in-Err.ensures.refused);
}

pub returns-in-Err-outcome-clause-simulated : goal.returns-in-Err-outcome-clause-simulated
returns-in-Err-outcome-clause-simulated g c = λ genuine.
    let m = g.M.Model.meaning c.args.model.now in
    let made = g.D.SectorDisk.state c.prepare.new.disk in
    let begun = prepared_genuine m c.args.end (g.D.SectorDisk.state c.args.disk) made (g.met.M.Model.lawful c.args.model.now) c.requires.possible.ends.within (g.met.D.SectorDisk.sound c.prepare.new.disk) (λ blank. c.in_default.ensures.made blank c.requires.possible.ends) c.prepare.ensures.looks genuine in
    record {
      finished = tt;
      represents = tt;
      committed = tt;
      faults = λ fault is.
          let cause : c.in-Err-outcome.fault ≡ Session (Port fault) = cc in
          let run = c.run-disk.ensures.run in
          let is_made = ran_refused run.0 (Port fault) (sym run.2 ∙ c.in-Err-outcome.is ∙ ap Err cause) in
          (subst (λ (r : Result Finished RunFault). IfErr r (IsFaultOverFaithful IsFaultInProgram m c.args.end c.args.plan made.reads)) is_made (run.1.faults begun)).port fault refl;
    }

pub returns-in-Err-outcome-2-clause-simulated : goal.returns-in-Err-outcome-2-clause-simulated
returns-in-Err-outcome-2-clause-simulated g c = λ genuine. record {
  finished = tt;
  represents = tt;
  committed = tt;
  faults = λ fault is. absurd (not_of_reading _ _ _ _ c.in-Err-outcome-2.fault (Port fault) (cc) (rw c.in-Err-outcome-2.is at c.committed-disk.ensures.refused));
}

pub returns-in-Ok-outcome-clause-simulated : goal.returns-in-Ok-outcome-clause-simulated
returns-in-Ok-outcome-clause-simulated g c = λ genuine.
    let m = g.M.Model.meaning c.args.model.now in
    let made = g.D.SectorDisk.state c.prepare.new.disk in
    let ran = g.D.SectorDisk.state c.run-disk.result.disk in
    let begun = prepared_genuine m c.args.end (g.D.SectorDisk.state c.args.disk) made (g.met.M.Model.lawful c.args.model.now) c.requires.possible.ends.within (g.met.D.SectorDisk.sound c.prepare.new.disk) (λ blank. c.in_default.ensures.made blank c.requires.possible.ends) c.prepare.ensures.looks genuine in
    let over = ran_to m c.args.end made ran c.run-disk.ensures.run.0 c.in-Ok.field-0 (sym c.run-disk.ensures.run.2 ∙ c.in-Ok.is) c.run-disk.ensures.run.1.simulation in
    let ended = (over.genuine begun).1 in
    let left = recovers-genuine m c.args.end ran (g.met.D.SectorDisk.sound c.run-disk.result.disk) c.args.end ended in
    let outcome = c.in-Ok-outcome.front in
    let upto = rw c.in-Ok-outcome.is at (c.committed-disk.ensures.upto left) in
    let late : c.args.end ≤ outcome.g = rw c.in-Ok-outcome.is at (c.committed-disk.ensures.late c.args.end ended) in
    let represents : Represents m c.args.end ran.reads (world_of outcome) = rw c.in-Ok-outcome.is at (c.committed-disk.ensures.represents left) in
    record {
      finished = at_end m c.args.end outcome.g (world_of outcome) upto.0 upto.1 late;
      represents = subst (λ (image : List (List ℕ)). Represents m c.args.end image (world_of outcome)) (sym c.committed-disk.ensures.looks.same) represents;
      committed = (looked-keeps m c.args.end c.args.end ran (g.D.SectorDisk.state c.committed-disk.result.disk) c.committed-disk.ensures.looks ended).now_on;
      faults = λ fault is. absurd (cc);
    }

pub returns-in-Ok-outcome-clause-count : goal.returns-in-Ok-outcome-clause-count
returns-in-Ok-outcome-clause-count g c = (ran_with (IsRunOver g.M.Model.meaning (state_by g.M.Model.meaning) g.D.SectorDisk.state c.args.model.now c.args.end c.args.plan c.prepare.new.disk c.run-disk.result.disk) c.run-disk.ensures.run.0 c.in-Ok.field-0 (sym c.run-disk.ensures.run.2 ∙ c.in-Ok.is) c.run-disk.ensures.run.1.over).each

pub returns-in-Ok-outcome-clause-crashes : goal.returns-in-Ok-outcome-clause-crashes
returns-in-Ok-outcome-clause-crashes g c = λ a recovers.
    let m = g.M.Model.meaning c.args.model.now in
    let old = g.D.SectorDisk.state c.args.disk in
    let made = g.D.SectorDisk.state c.prepare.new.disk in
    let ran = g.D.SectorDisk.state c.run-disk.result.disk in
    let new = g.D.SectorDisk.state c.committed-disk.result.disk in
    one_by_one m c.args.end a old ran new
    (one_by_one m c.args.end a old made ran (c.prepare.ensures.crashes m c.args.end a recovers) (c.run-disk.ensures.run.1.simulation.crashes a))
    (looked-keeps m c.args.end a ran new c.committed-disk.ensures.looks)

pub returns-in-Ok-outcome-clause-any_moment : goal.returns-in-Ok-outcome-clause-any_moment
returns-in-Ok-outcome-clause-any_moment g c = λ in_sync blank.
    let m = g.M.Model.meaning c.args.model.now in
    let old = g.D.SectorDisk.state c.args.disk in
    let made = g.D.SectorDisk.state c.prepare.new.disk in
    let ran = g.D.SectorDisk.state c.run-disk.result.disk in
    let new = g.D.SectorDisk.state c.committed-disk.result.disk in
    let runs = c.run-disk.ensures.run.1.simulation.crashes 0 (exactly_recovers m c.args.end made (c.in_default.ensures.made blank c.requires.possible.ends)) in
    then_so m c.args.end old ran new
    (then_so m c.args.end old made ran (made_so m c.args.end old made (c.prepare.ensures.any_moment in_sync blank c.requires.possible.ends)) runs)
    (looked-keeps m c.args.end 0 ran new c.committed-disk.ensures.looks runs.now_on)

pub returns-in-Err-outcome-2-clause-crashes : goal.returns-in-Err-outcome-2-clause-crashes
returns-in-Err-outcome-2-clause-crashes g c = λ a recovers.
    let m = g.M.Model.meaning c.args.model.now in
    let old = g.D.SectorDisk.state c.args.disk in
    let made = g.D.SectorDisk.state c.prepare.new.disk in
    let ran = g.D.SectorDisk.state c.run-disk.result.disk in
    let new = g.D.SectorDisk.state c.committed-disk.result.disk in
    one_by_one m c.args.end a old ran new
    (one_by_one m c.args.end a old made ran (c.prepare.ensures.crashes m c.args.end a recovers) (c.run-disk.ensures.run.1.simulation.crashes a))
    (looked-keeps m c.args.end a ran new c.committed-disk.ensures.looks)

pub returns-in-Err-outcome-2-clause-any_moment : goal.returns-in-Err-outcome-2-clause-any_moment
returns-in-Err-outcome-2-clause-any_moment g c = λ in_sync blank.
    let m = g.M.Model.meaning c.args.model.now in
    let old = g.D.SectorDisk.state c.args.disk in
    let made = g.D.SectorDisk.state c.prepare.new.disk in
    let ran = g.D.SectorDisk.state c.run-disk.result.disk in
    let new = g.D.SectorDisk.state c.committed-disk.result.disk in
    let runs = c.run-disk.ensures.run.1.simulation.crashes 0 (exactly_recovers m c.args.end made (c.in_default.ensures.made blank c.requires.possible.ends)) in
    then_so m c.args.end old ran new
    (then_so m c.args.end old made ran (made_so m c.args.end old made (c.prepare.ensures.any_moment in_sync blank c.requires.possible.ends)) runs)
    (looked-keeps m c.args.end 0 ran new c.committed-disk.ensures.looks runs.now_on)

pub returns-in-Err-clause-kept : goal.returns-in-Err-clause-kept
returns-in-Err-clause-kept g c = λ v.
    let m = g.M.Model.meaning c.args.model.now in
    let old = g.D.SectorDisk.state c.args.disk in
    let made = g.D.SectorDisk.state c.prepare.new.disk in
    kept-call m v old made (prepared-under m v.time old made (g.met.D.SectorDisk.sound c.args.disk) c.prepare.ensures.looks)

pub returns-in-Err-outcome-clause-kept : goal.returns-in-Err-outcome-clause-kept
returns-in-Err-outcome-clause-kept g c = λ v.
    let m = g.M.Model.meaning c.args.model.now in
    let old = g.D.SectorDisk.state c.args.disk in
    let made = g.D.SectorDisk.state c.prepare.new.disk in
    let ran = g.D.SectorDisk.state c.run-disk.result.disk in
    kept-call m v old ran
    (λ recovers.
    let first = prepared-under m v.time old made (g.met.D.SectorDisk.sound c.args.disk) c.prepare.ensures.looks recovers in
    then-under m v.time v.time old made ran first (run-keeps m c.args.end v made ran _ (c.run-disk.ensures.run.1.simulation.kept v) first.now_on))

pub returns-in-Err-outcome-2-clause-kept : goal.returns-in-Err-outcome-2-clause-kept
returns-in-Err-outcome-2-clause-kept g c = λ v.
    let m = g.M.Model.meaning c.args.model.now in
    let old = g.D.SectorDisk.state c.args.disk in
    let made = g.D.SectorDisk.state c.prepare.new.disk in
    let ran = g.D.SectorDisk.state c.run-disk.result.disk in
    let new = g.D.SectorDisk.state c.committed-disk.result.disk in
    kept-call m v old new
    (λ recovers.
    let first = prepared-under m v.time old made (g.met.D.SectorDisk.sound c.args.disk) c.prepare.ensures.looks recovers in
    looked-after m v.time v.time old ran new (then-under m v.time v.time old made ran first (run-keeps m c.args.end v made ran _ (c.run-disk.ensures.run.1.simulation.kept v) first.now_on)) c.committed-disk.ensures.looks)

pub returns-in-Ok-outcome-clause-kept : goal.returns-in-Ok-outcome-clause-kept
returns-in-Ok-outcome-clause-kept g c = λ v.
    let m = g.M.Model.meaning c.args.model.now in
    let end = c.args.end in
    let old = g.D.SectorDisk.state c.args.disk in
    let made = g.D.SectorDisk.state c.prepare.new.disk in
    let ran = g.D.SectorDisk.state c.run-disk.result.disk in
    let new = g.D.SectorDisk.state c.committed-disk.result.disk in
    let outcome = c.in-Ok-outcome.front in
    let done = c.in-Ok.field-0 in
    let over = ran_to m end made ran c.run-disk.ensures.run.0 done (sym c.run-disk.ensures.run.2 ∙ c.in-Ok.is) c.run-disk.ensures.run.1.simulation in
    let kept : IsKeptRun m end v made ran (Some (done.time, done.events)) = over.kept v in
    let sound = g.met.D.SectorDisk.sound c.prepare.new.disk in
    let prepared = prepared-under m v.time old made (g.met.D.SectorDisk.sound c.args.disk) c.prepare.ensures.looks in
    let begun : RecoversUnderItsEnd m v.time old → IsGenuine m end made.reads = λ recovers. genuine-under-its-end m end v.time made.reads ((prepared recovers).now_on made.reads (reads_left made.reads made.dirty sound)) in
    let ended : RecoversUnderItsEnd m v.time old → Recovers m end end ran = λ recovers. (over.genuine (begun recovers)).1 in
    let reached : RecoversUnderItsEnd m v.time old → done.time ≡ end = λ recovers. (over.genuine (begun recovers)).0.time_is in
    let upto : RecoversUnderItsEnd m v.time old → IsUpto m end outcome.g (world_of outcome) × (outcome.g ≤ end) =
    λ recovers. (rw c.in-Ok-outcome.is at (c.committed-disk.ensures.upto (recovers-genuine m end ran (g.met.D.SectorDisk.sound c.run-disk.result.disk) end (ended recovers)))) in
    let late : RecoversUnderItsEnd m v.time old → end ≤ outcome.g = λ recovers. (rw c.in-Ok-outcome.is at (c.committed-disk.ensures.late end (ended recovers))) in
    let time_is : RecoversUnderItsEnd m v.time old → done.time ≡ outcome.g = λ recovers. (let e = reached recovers in let le = (upto recovers).1 in let ge = late recovers in omega (arith, e, le, ge)) in
    let keeps : RecoversUnderItsEnd m v.time old → KeepsUnderItsEnd m v.time done.time old ran =
    λ recovers. then-under m v.time done.time old made ran (prepared recovers) (run-keeps-to m end v made ran done.time done.events kept (prepared recovers).now_on) in
    record {
      crashes = λ recovers. subst (λ (t : ℕ). KeepsUnderItsEnd m v.time t old new) (time_is recovers) (looked-after m v.time done.time old ran new (keeps recovers) c.committed-disk.ensures.looks);
      front = λ recovers s is. (let e : in_force end (world_of outcome) ≡ s = cc in subst (λ (x : Simulation). IsUpto m x.end x.world.time x.world × (x.world.time ≤ x.end)) e (upto recovers));
    }
