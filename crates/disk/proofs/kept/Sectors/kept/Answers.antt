use Rattle.std.proofs.Common.{◌∙◌}
use Rattle.disk.proofs.Keeping.{take_kept}
use Rattle.disk.proofs.kept.Sectors.kept.Goals as goal

pub returns-clause-first : goal.returns-clause-first
returns-clause-first c = rw (← c.self.view_is) (c.deref.ensures.value ∙ take_kept c.self.inside.count c.self.inside.kept.items)
