use Rattle.std.proofs.Common.{◌≡◌, length}
use Rattle.model.specs.Runner.{IsRun}
use Rattle.pictures.proofs.stepping.step_some.Given as goal

abbrev pub invariant-loop : goal.invariant-loop
invariant-loop g l = record {
  run : IsRun (g.M.Model.meaning l.model) l.bound l.initial.world.world l.world.world;
  end : l.world.end ≡ l.initial.world.end;
  lps : length l.world.world.states ≡ length l.initial.world.world.states;
}
