use Rattle.std.proofs.Common.{◌≤◌, ◌-◌}
use Rattle.runs.specs.Driver.{AreRounds, IsDrivenBy, trusts_by}
use Rattle.runs.specs.Tallies.{IsSized, IsTallyOf}
use Rattle.runs.proofs.rounds.run_session.Given as goal

abbrev pub invariant-rounds : goal.invariant-rounds
invariant-rounds g l = record {
  made : (l.made ≤ l.last) × (l.last ≤ l.plan.rounds);
  driven : IsDrivenBy g.M.Model.meaning g.P.Port.state g.D.SectorDisk.state (trusts_by l.plan) (λ made. AreRounds l.plan l.end l.last l.made made × IsTallyOf l.plan l.tally made) l.fn.session l.session;
  commits : l.tally.commits ≤ l.made;
  sized : IsSized l.plan.nodes l.tally;
}

abbrev pub decreases-rounds : goal.decreases-rounds
decreases-rounds g l = l.plan.rounds - l.made
