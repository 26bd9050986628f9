use Rattle.std.proofs.Common.{sym}
use Rattle.disk.proofs.Keeping.{length-all}
use Rattle.disk.proofs.kept.Sectors.count.Goals as goal

pub returns : goal.returns
returns c = rw (← c.self.view_is) (sym (length-all c.self.inside.count c.self.inside.kept.items c.self.invariant.within))
