use Rattle.std.proofs.Common.{◌≡◌, ◌+◌, ℕ, arith, refl, subst, suc, sym}
use Rattle.plain.specs.Commits.{StaysRecoverable}
use Rattle.plain.specs.Runs.{AreRounds, IsRound, RoundIsRefused, RoundsStop}
use Rattle.plain.specs.declared.PlainFault.{PlainFault}
use Rattle.plain.proofs.Rounds.{stays-there, stops-at}
use Rattle.plain.proofs.whole.make_rounds.Goals as goal

pub returns-in-Err-clause-stopped : goal.returns-in-Err-clause-stopped
returns-in-Err-clause-stopped g c = let next : c.commits.number + 1 ≡ suc c.commits.number = omega arith in record {
  number = c.commits.number;
  last = c.commits.run;
  made = c.commits.invariant;
  early = omega (arith, c.if-end-time.false, c.end.ensures, c.time.ensures);
  why = stops-at g.M.Model.meaning g.D.SectorDisk.state c.args.plan c.commits.number c.commits.run c.in-Err.stopped.disk c.in-Err.stopped.fault (omega (arith, c.commits-test.true))
      (subst (λ (n : ℕ). RoundIsRefused g.M.Model.meaning g.D.SectorDisk.state c.args.plan n c.commits.run c.in-Err.stopped.disk c.in-Err.stopped.fault) next c.in-Err.ensures.refused);
  stays = c.in-Err.ensures.stays;
}

pub commits-preserved : goal.commits-preserved
commits-preserved g c =
    let next : c.commits.number + 1 ≡ suc c.commits.number = omega arith in
    let round = subst (λ (n : ℕ). IsRound g.M.Model.meaning g.D.SectorDisk.state c.args.plan n c.commits.run c.in-Ok.next) next c.in-Ok.ensures.made in
    let made : AreRounds g.M.Model.meaning g.D.SectorDisk.state c.args.plan (suc c.commits.number) c.args.run c.in-Ok.next =
    (c.commits.run, c.commits.invariant, omega (arith, c.if-end-time.false, c.end.ensures, c.time.ensures), round) in
    subst (λ (n : ℕ). AreRounds g.M.Model.meaning g.D.SectorDisk.state c.args.plan n c.args.run c.in-Ok.next) (sym next) made

pub returns-clause-stopped : goal.returns-clause-stopped
returns-clause-stopped g c =
    let disk = g.D.SectorDisk.state in
    record {
      number = c.commits.number;
      last = c.commits.run;
      made = c.commits.invariant;
      early = omega (arith, c.if-end-time-2.false, c.end-2.ensures, c.time-2.ensures);
      why = (omega (arith, c.commits-test.false, c.commits.auto.number-end), c.into_disk.ensures);
      stays = subst (λ (d : g.row.D.Denot). StaysRecoverable g.M.Model.meaning disk c.commits.run d) (sym c.into_disk.ensures) (stays-there g.M.Model.meaning disk c.commits.run);
    }

pub returns-then-is_last-clause-stopped : goal.returns-then-is_last-clause-stopped
returns-then-is_last-clause-stopped g c =
    let disk = g.D.SectorDisk.state in
    let last = c.commits.run in
    let left = c.stop.result.disk in
    record {
      number = c.commits.number;
      last = last;
      made = c.commits.invariant;
      early = omega (arith, c.if-end-time.false, c.end.ensures, c.time.ensures);
      why = subst (λ (fault : PlainFault). RoundsStop g.M.Model.meaning disk c.args.plan c.commits.number last left fault) (sym c.stop.ensures.fault)
          (omega (arith, c.commits-test.true), c.stop.ensures.disk, refl, refl);
      stays = subst (λ (d : g.row.D.Denot). StaysRecoverable g.M.Model.meaning disk last d) (sym c.stop.ensures.disk) (stays-there g.M.Model.meaning disk last);
    }
