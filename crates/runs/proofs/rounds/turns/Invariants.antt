use Rattle.std.proofs.Common.{◌≡◌}
use Rattle.runs.specs.Driver.{IsDrivenBy, AreTurns, trusts_by}
use Rattle.runs.specs.Tallies.{IsSized, Tallied}
use Rattle.runs.proofs.rounds.turns.Given as goal

abbrev pub invariant-nodes : goal.invariant-nodes
invariant-nodes g l = record {
  driven : IsDrivenBy g.M.Model.meaning g.P.Port.state g.D.SectorDisk.state (trusts_by l.round.plan) (Tallied l.round.plan (AreTurns l.round.plan l.node) l.fn.tally l.tally) l.fn.session l.session;
  commits : l.tally.commits ≡ l.fn.tally.commits;
  sized : IsSized l.round.plan.nodes l.tally;
}
