use Rattle.plain.specs.Runs.{AreRounds}
use Rattle.plain.proofs.whole.make_rounds.Given as goal

abbrev pub invariant-commits : goal.invariant-commits
invariant-commits g l = AreRounds g.M.Model.meaning g.D.SectorDisk.state l.plan l.number l.fn.run l.run
