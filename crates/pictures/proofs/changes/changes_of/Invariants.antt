use Rattle.std.proofs.Common.{◌≡◌, length}
use Rattle.pictures.proofs.changes.changes_of.Given as goal

abbrev pub invariant-events : goal.invariant-events
invariant-events g l = length l.world.world.states ≡ (g.M.Model.meaning l.model).lps
