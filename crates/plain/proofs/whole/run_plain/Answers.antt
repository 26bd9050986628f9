use Rattle.std.proofs.Common.{◌<◌, Some, ℕ, arith, inl, inr, subst, sym}
use Rattle.recovery.specs.Crashes.{KeepsRecovery, KeepsUnderItsEnd}
use Rattle.recovery.specs.Histories.{IsKeptRun}
use Rattle.recovery.specs.OldRecords.{KeepsOldRecords}
use Rattle.recovery.specs.Represents.{Recovers}
use Rattle.recovery.proofs.Crashes.{back, back-under, earlier, followed_by, goes-under, kept-front, kept-none, looked-keeps, looked-under, recovers-genuine}
use Rattle.recovery.proofs.OldRecords.{keeps_on, looks_at_old}
use Rattle.plain.proofs.Recoveries.{written-upto}
use Rattle.plain.proofs.Rounds.{at-stop, ends-early, ends-kept, ends-stop, ends-written, is_run, kept-stop, opens-without-stop, rounds-follow, stays-after, stop-kept, stops-with}
use Rattle.plain.proofs.whole.run_plain.Goals as goal

-- the disk was not opened
pub returns-in-Err-clause-run : goal.returns-in-Err-clause-run
returns-in-Err-clause-run g c =
    let m = g.M.Model.meaning c.args.model.now in
    let end = c.args.end in
    let old = g.D.SectorDisk.state c.args.disk in
    let left = g.D.SectorDisk.state c.in-Err.field-0.disk in
    let fault = c.in-Err.field-0.fault in
    let looks = c.in-Err.ensures.looks_err in
    record {
      over = tt;
      cause = inl c.in-Err.ensures.refused;
      simulation = record {
        kept = λ v. kept-stop m end v old left fault (λ time events cause. absurd (opens-without-stop m end old.reads (old.failures < left.failures) fault time events c.in-Err.ensures.refused cause))
            (kept-none m end v old left (looked-under m v.time old left looks));
        crashes = λ a recovers. looked-keeps m end a old left looks recovers;
        genuine = λ genuine. ends-stop m end left fault (λ time events cause. absurd (opens-without-stop m end old.reads (old.failures < left.failures) fault time events c.in-Err.ensures.refused cause));
      };
    }

pub returns-in-Err-clause-old_records : goal.returns-in-Err-clause-old_records
returns-in-Err-clause-old_records g c = looks_at_old (g.D.SectorDisk.state c.args.disk) (g.D.SectorDisk.state c.in-Err.field-0.disk) c.in-Err.ensures.looks_err

-- the end is reached
pub returns-in-Ok-make_rounds-clause-run : goal.returns-in-Ok-make_rounds-clause-run
returns-in-Ok-make_rounds-clause-run g c =
    let m = g.M.Model.meaning c.args.model.now in
    let end = c.args.end in
    let disk = g.D.SectorDisk.state in
    let first = c.in-Ok.run' in
    let last = c.in-Ok-make_rounds.run' in
    let begun = c.in-Ok.ensures.begun in
    let made = c.in-Ok-make_rounds.ensures.made in
    let follow = rounds-follow g.M.Model.meaning disk c.args.plan made.0 first last made.2 in
    record {
      over = record {
        first = first;
        begun = begun;
        number = made.0;
        some = made.1;
        last = last;
        made = made.2;
        reached = omega (arith, made.3, follow.end_is, begun.end_is, c.time.ensures);
        time_is = c.time.ensures;
        events_are = c.events.ensures;
        left = c.into_disk.ensures;
      };
      cause = tt;
      simulation = record {
        kept = λ v. subst (λ (d : g.row.D.Denot). IsKeptRun m end v (disk c.args.disk) (disk d) (Some (c.time.result, c.events.result))) (sym c.into_disk.ensures)
            (kept-front m end v (disk c.args.disk) (disk last.log.disk) last.front.world
            (λ recovers. let under = c.in-Ok.ensures.under_its_end v.time recovers in written-upto m end disk last.front.world last.log (ends-written g.M.Model.meaning disk c.args.model.now end c.args.disk first begun last follow under.0))
            c.time.result c.events.result c.time.ensures c.events.ensures
            (λ recovers. let under = c.in-Ok.ensures.under_its_end v.time recovers in
            goes-under m end v.time first.front.world.time last.front.world.time (disk c.args.disk) (disk first.log.disk) (disk last.log.disk) under.2
            (ends-kept g.M.Model.meaning disk c.args.model.now end c.args.disk first begun last follow under.0 under.1)));
        crashes = λ a recovers.
            let written = c.in-Ok.ensures.written (recovers-genuine m end (disk c.args.disk) (g.met.D.SectorDisk.sound c.args.disk) a recovers) in
            let keeps = ends-kept g.M.Model.meaning disk c.args.model.now end c.args.disk first begun last follow written.0 written.1 in
            subst (λ (d : g.row.D.Denot). KeepsRecovery m end a a (disk c.args.disk) (disk d)) (sym c.into_disk.ensures)
            (back m end a last.front.world.time (disk c.args.disk) (disk last.log.disk)
            (followed_by m end a first.front.world.time last.front.world.time (disk c.args.disk) (disk first.log.disk) (disk last.log.disk) (c.in-Ok.ensures.crashes a recovers) keeps));
        genuine = λ genuine.
            let written = c.in-Ok.ensures.written genuine in
            let keeps = ends-kept g.M.Model.meaning disk c.args.model.now end c.args.disk first begun last follow written.0 written.1 in (
              is_run m end disk last.front.world last.log (ends-written g.M.Model.meaning disk c.args.model.now end c.args.disk first begun last follow written.0)
                  (omega (arith, made.3, follow.end_is, begun.end_is)) c.time.result c.events.result c.time.ensures c.events.ensures,
              subst (λ (d : g.row.D.Denot). Recovers m end end (disk d)) (sym c.into_disk.ensures)
                  (earlier m end end last.front.world.time (disk last.log.disk) (omega (arith, made.3, follow.end_is, begun.end_is)) keeps.now_on),
            );
      };
    }

pub returns-in-Ok-make_rounds-clause-old_records : goal.returns-in-Ok-make_rounds-clause-old_records
returns-in-Ok-make_rounds-clause-old_records g c =
    let disk = g.D.SectorDisk.state in
    let first = c.in-Ok.run' in
    let last = c.in-Ok-make_rounds.run' in
    let made = c.in-Ok-make_rounds.ensures.made in
    let follow = rounds-follow g.M.Model.meaning disk c.args.plan made.0 first last made.2 in
    subst (λ (d : g.row.D.Denot). KeepsOldRecords (disk c.args.disk) (disk d)) (sym c.into_disk.ensures)
    (keeps_on (disk c.args.disk) (disk first.log.disk) (disk last.log.disk) (looks_at_old (disk c.args.disk) (disk first.log.disk) c.in-Ok.ensures.begun.looks) follow.old_records)

-- it is not
pub returns-in-Err-make_rounds-clause-run : goal.returns-in-Err-make_rounds-clause-run
returns-in-Err-make_rounds-clause-run g c =
    let m = g.M.Model.meaning c.args.model.now in
    let end = c.args.end in
    let disk = g.D.SectorDisk.state in
    let meaning = g.M.Model.meaning in
    let first = c.in-Ok.run' in
    let begun = c.in-Ok.ensures.begun in
    let stopped = c.in-Err-make_rounds.ensures.stopped in
    let left = c.in-Err-make_rounds.field-0.disk in
    let fault = c.in-Err-make_rounds.field-0.fault in
    let last = stopped.last in
    let follow = rounds-follow meaning disk c.args.plan stopped.number first last stopped.made in
    let stays = stays-after meaning disk first last left follow stopped.stays in
    record {
      over = tt;
      cause = inr (first, begun, stopped);
      simulation = record {
        kept = λ v.
            kept-stop m end v (disk c.args.disk) (disk left) fault
            (λ time events cause.
            let stop = at-stop meaning disk c.args.plan first left fault stopped time events cause in
            kept-front m end v (disk c.args.disk) (disk left) last.front.world
            (λ recovers. let under = c.in-Ok.ensures.under_its_end v.time recovers in written-upto m end disk last.front.world last.log (ends-written meaning disk c.args.model.now end c.args.disk first begun last follow under.0))
            time events stop.2 stop.3
            (λ recovers. let under = c.in-Ok.ensures.under_its_end v.time recovers in
            subst (λ (t : ℕ). KeepsUnderItsEnd m v.time t (disk c.args.disk) (disk left)) stop.2
            (goes-under m end v.time first.front.world.time time (disk c.args.disk) (disk first.log.disk) (disk left) under.2
            (stop-kept meaning disk c.args.plan first left fault stopped time events cause c.args.model.now end c.args.disk begun under.0 under.1))))
            (kept-none m end v (disk c.args.disk) (disk left)
            (λ recovers. let under = c.in-Ok.ensures.under_its_end v.time recovers in
            let keeps = ends-early meaning disk c.args.model.now end c.args.disk first begun left stays under.0 under.1 in
            back-under m v.time first.front.world.time (disk c.args.disk) (disk left)
            (goes-under m end v.time first.front.world.time first.front.world.time (disk c.args.disk) (disk first.log.disk) (disk left) under.2 keeps)));
        crashes = λ a recovers.
            let written = c.in-Ok.ensures.written (recovers-genuine m end (disk c.args.disk) (g.met.D.SectorDisk.sound c.args.disk) a recovers) in
            let keeps = ends-early meaning disk c.args.model.now end c.args.disk first begun left stays written.0 written.1 in
            back m end a first.front.world.time (disk c.args.disk) (disk left)
            (followed_by m end a first.front.world.time first.front.world.time (disk c.args.disk) (disk first.log.disk) (disk left) (c.in-Ok.ensures.crashes a recovers) keeps);
        genuine = λ genuine.
            let written = c.in-Ok.ensures.written genuine in
            ends-stop m end (disk left) fault (λ time events cause. (
              stops-with meaning disk c.args.plan first left fault stopped time events cause c.args.model.now end c.args.disk begun written.0,
              (stop-kept meaning disk c.args.plan first left fault stopped time events cause c.args.model.now end c.args.disk begun written.0 written.1).now_on,
            ));
      };
    }

pub returns-in-Err-make_rounds-clause-old_records : goal.returns-in-Err-make_rounds-clause-old_records
returns-in-Err-make_rounds-clause-old_records g c =
    let disk = g.D.SectorDisk.state in
    let meaning = g.M.Model.meaning in
    let first = c.in-Ok.run' in
    let stopped = c.in-Err-make_rounds.ensures.stopped in
    let left = c.in-Err-make_rounds.field-0.disk in
    let follow = rounds-follow meaning disk c.args.plan stopped.number first stopped.last stopped.made in
    let stays = stays-after meaning disk first stopped.last left follow stopped.stays in
    keeps_on (disk c.args.disk) (disk first.log.disk) (disk left) (looks_at_old (disk c.args.disk) (disk first.log.disk) c.in-Ok.ensures.begun.looks) stays.old_records
