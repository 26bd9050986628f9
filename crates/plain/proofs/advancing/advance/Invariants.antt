use Rattle.std.proofs.Common.{◌≡◌, ◌⊎◌, ◌<◌, ◌-◌, length}
use Rattle.model.specs.World.{IsUpto}
use Rattle.plain.specs.Going.{IsLeast, IsOn}
use Rattle.plain.proofs.advancing.advance.Given as goal

abbrev pub invariant-ticks : goal.invariant-ticks
invariant-ticks g l = record {
  before : l.before ≡ length l.fn.world.world.log;
  end : l.world.end ≡ l.fn.world.end;
  lps : length l.world.world.states ≡ length l.fn.world.world.states;
  on : IsOn (g.M.Model.meaning l.model) l.fn.world.end l.fn.world.world l.world.world;
  upto : IsUpto (g.M.Model.meaning l.model) l.fn.world.end l.fn.world.world.time l.fn.world.world → IsUpto (g.M.Model.meaning l.model) l.fn.world.end l.world.world.time l.world.world;
  moved : (l.world.world ≡ l.fn.world.world) ⊎ ((l.fn.world.world.time < l.world.world.time)
      × (IsUpto (g.M.Model.meaning l.model) l.fn.world.end l.fn.world.world.time l.fn.world.world → IsLeast (g.M.Model.meaning l.model) l.fn.world.end l.every l.fn.world.world l.world.world));
}

abbrev pub decreases-ticks : goal.decreases-ticks
decreases-ticks g l = l.fn.world.end - l.world.world.time
