use Rattle.std.proofs.Common.{inl, ◌<◌, ap, length, map, refl, subst, sym, ◌≡◌}
use Rattle.recovery.proofs.OldRecords.{looks_at_old, session_keeps_old}
use Rattle.recovery.specs.Crashes.{KeepsRecovery}
use Rattle.recovery.specs.Represents.{IsGenuine, Recovers}
use Rattle.coordinator.proofs.Resuming.{driven-on}
use Rattle.coordinator.specs.Session.{system_of, running}
use Rattle.coordinator.specs.Crashes.{IsTrusted}
use Rattle.coordinator.specs.Opening.{LeavesExactly}
use Rattle.coordinator.specs.declared.SessionFault.TheVariants.{Port, Reports}
use Rattle.model.specs.World.{World}
use Rattle.gvt.specs.System.{opened as opened_system}
use Rattle.runs.proofs.Causes.{cause_of, over_of}
use Rattle.runs.proofs.Drives.{answered, front_upto, goes_by, in_transit, may_trust}
use Rattle.runs.proofs.Faults.{opening_faults, opening_reports, step_faults, step_reports}
use Rattle.runs.proofs.Kept.{ends_early, only_read, reaches_end}
use Rattle.runs.proofs.Unfinished.{unfinished}
use Rattle.runs.specs.Driver.{AreRounds, DrivingHasCause, TrustsOnlyFaithful, trusts_by}
use Rattle.runs.specs.declared.rounds.RunFault.{RunFault}
use Rattle.runs.specs.declared.rounds.RunFault.TheVariants.{Rounds, Session, Stopped}
use Rattle.runs.proofs.over.run_over.Goals as goal
use Rattle.runs.proofs.over.run_over.Goals.{in-Ok-run_session, in-Err-run_session}

-- the session was not opened
pub returns-in-Err-clause-run : goal.returns-in-Err-clause-run
returns-in-Err-clause-run g c =
    let m = g.M.Model.meaning c.args.model.now in
    let state = g.D.SectorDisk.state in
    let not_opened = c.in-Err.field-0 in
    let failed = (state c.args.disk).failures < (state not_opened.disk).failures in
    record {
      over = tt;
      cause = inl c.in-Err.ensures.refused;
      simulation = λ only_faithful. only_read m c.args.end (state c.args.disk) (state not_opened.disk) (Session not_opened.fault) c.in-Err.ensures.not_opened.looks (λ time events is. cc);
      faults = λ are_faithful genuine. record {
        port = λ fault is.
            let cause : not_opened.fault ≡ Port fault = cc in
            opening_faults g.P.Port.state m c.args.end (state c.args.disk).reads c.args.ports.items failed not_opened.fault fault cause are_faithful c.in-Err.ensures.refused;
        reports = λ is.
            let cause : not_opened.fault ≡ Reports = cc in
            opening_reports m c.args.end (state c.args.disk).reads (map g.P.Port.state c.args.ports.items) failed not_opened.fault cause c.in-Err.ensures.refused;
        rounds = λ is. absurd (cc);
      };
    }

pub returns-in-Err-clause-old_records : goal.returns-in-Err-clause-old_records
returns-in-Err-clause-old_records g c = looks_at_old (g.D.SectorDisk.state c.args.disk) _ c.in-Err.ensures.not_opened.looks

pub returns-clause-run : goal.returns-clause-run
returns-clause-run g c =
    let meaning = g.M.Model.meaning in
    let m = g.M.Model.meaning c.args.model.now in
    let end = c.args.end in
    let plan = c.args.plan in
    let state = g.D.SectorDisk.state in
    let old = state c.args.disk in
    let first = c.in-Ok.session in
    let last = c.run_session.new.session in
    let front = last.front in
    let mid = state first.log.disk in
    let new = state last.log.disk in
    let opened = c.in-Ok.ensures in
    let model_is = opened.opened.model_is in
    let end_is = opened.opened.end_is in
    let replayed = opened.opened.replayed in
    let Trusts : Type 0 = TrustsOnlyFaithful plan m (map g.P.Port.state c.args.ports.items) in
    let exactly : IsGenuine m end old.reads → LeavesExactly m end first.front mid = λ genuine. (opened.opened.genuine genuine).exactly in
    let trusted : Trusts → IsGenuine m end old.reads → IsTrusted (trusts_by plan) (running meaning g.P.Port.state first) =
    λ only_faithful genuine. may_trust plan m (map g.P.Port.state c.args.ports.items) (running meaning g.P.Port.state first) (λ faithful. (opened.faithful faithful).consistent genuine) only_faithful in
    let driven : Trusts → IsGenuine m end old.reads → Recovers m end first.front.time mid → KeepsRecovery m end first.front.time front.time mid new =
    λ only_faithful genuine. driven-on _ _ _ _ first.front front first.log _ _ (ap meaning model_is) end_is (c.run_session.ensures.keeps.crashes (trusted only_faithful genuine)) (opened.opened.genuine genuine).written in
    let lawful = g.met.M.Model.lawful c.args.model.now in
    let sound = g.met.D.SectorDisk.sound c.args.disk in
    elim c.match-run_session.branch [
      | in-Ok-run_session w ↦
          let time_is = sym (ap (λ (v : World). v.time) w.front-front.ensures) in
          let events_are = sym (ap (λ (v : World). length v.log) w.front-front.ensures) in
          let by = w.in-Ok-run_session.ensures.ended in
          rw (w.outcome-is, c.into_disk.ensures)
          (record {
            over = over_of meaning g.P.Port.state state c.args.model.now end plan (map g.P.Port.state c.args.ports.items) c.args.disk last.log.disk first last model_is end_is replayed refl _ by time_is events_are;
            cause = tt;
            simulation = λ only_faithful. reaches_end m end first.front front old mid new lawful sound opened.opened.looks replayed opened.crashes exactly (driven only_faithful) _ _ time_is events_are by.reached
                (λ genuine. front_upto meaning g.P.Port.state state _ first last m end (ap meaning model_is) end_is by.in_rounds (trusted only_faithful genuine) (opened.opened.genuine genuine).written);
            faults = λ are_faithful genuine. tt;
          })
      | in-Err-run_session w ↦
          let fault = w.in-Err-run_session.fault in
          let why = w.in-Err-run_session.ensures.cause in
          let Why : RunFault → Type 0 = DrivingHasCause meaning g.P.Port.state state end plan first last in
          rw (w.outcome-is, c.into_disk.ensures)
          (record {
            over = tt;
            cause = cause_of meaning g.P.Port.state state c.args.model.now end plan (map g.P.Port.state c.args.ports.items) c.args.disk last.log.disk first last model_is end_is replayed refl fault why;
            simulation = λ only_faithful. ends_early m end first.front front old mid new lawful sound opened.opened.looks replayed opened.crashes exactly (driven only_faithful) fault
                (λ time events is.
                let stop : Why (Stopped time events) = subst Why is why in (
                  stop.0,
                  stop.1,
                  stop.2,
                  λ genuine. front_upto meaning g.P.Port.state state _ first last m end (ap meaning model_is) end_is stop.3.2 (trusted only_faithful genuine) (opened.opened.genuine genuine).written,
                ));
            faults = λ are_faithful genuine.
                let faithful = opened.faithful are_faithful in
                let consistent = faithful.consistent genuine in
                record {
                  port = λ own is.
                      let stop : Why (Session (Port own)) = subst Why is why in
                      step_faults g.P.Port.state meaning state (AreRounds plan end stop.1 stop.0) first last own consistent stop.3;
                  reports = λ is.
                      let stop : Why (Session Reports) = subst Why is why in
                      step_reports g.P.Port.state meaning state (AreRounds plan end stop.1 stop.0) first last consistent stop.3;
                  rounds = λ is.
                      let stop : Why Rounds = subst Why is why in
                      let by = stop.1 in
                      let system = subst (λ n. system_of (running meaning g.P.Port.state first) ≡ opened_system m.lps n first.front) c.requires.each (faithful.system genuine) in
                      unfinished m end plan old.reads first.front (running meaning g.P.Port.state first) (running meaning g.P.Port.state last) by.steps
                      replayed (ap meaning model_is) end_is system by.shape
                      ((goes_by meaning g.P.Port.state state by.steps first last by.made).made consistent)
                      (answered meaning g.P.Port.state state by.steps first last by.made consistent)
                      (in_transit meaning g.P.Port.state state by.steps first last by.made consistent) stop.0;
                };
          })
    ]

pub returns-clause-old_records : goal.returns-clause-old_records
returns-clause-old_records g c =
    let first = c.in-Ok.session in
    let opened = c.in-Ok.ensures.opened in
    rw c.into_disk.ensures
    (session_keeps_old (g.D.SectorDisk.state c.args.disk) (g.D.SectorDisk.state first.log.disk) _ first.log.header first.log.records opened.looks opened.durable
    (c.run_session.ensures.keeps.leaves opened.durable))
