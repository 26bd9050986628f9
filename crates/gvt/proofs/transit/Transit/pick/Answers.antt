use Rattle.std.proofs.Common.{rules}
use Rattle.gvt.proofs.Sweeps.{no_picks}
use Rattle.gvt.proofs.transit.Transit.pick.Goals as goal

pub returns-then-is_empty-clause-left : goal.returns-then-is_empty-clause-left
returns-then-is_empty-clause-left c = no_picks c.args.picks.now c.args.self.now (search rules)
