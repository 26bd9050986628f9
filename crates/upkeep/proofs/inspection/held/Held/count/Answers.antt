use Rattle.std.proofs.Common.{subst}
use Rattle.upkeep.specs.Part.{AreSectors, HeldSectors}
use Rattle.upkeep.proofs.HeldSectors.{held_whole}
use Rattle.upkeep.proofs.inspection.held.Held.count.Goals as goal

pub returns-clause-whole : goal.returns-clause-whole
returns-clause-whole c =
    subst (λ (s : HeldSectors). AreSectors s.items) c.self.view_is
    (held_whole c.self.inside.places.items c.self.inside.kept.items c.self.invariant.within c.self.invariant.whole)
