-- The value of a `World` that contracts see.
use Rattle.std.specs.List.{AllByRecursion as Every}
use Rattle.std.specs.Prelude.{◌≤◌, ◌^◌, map, length}
use Rattle.model.specs.Runner.{Simulation}
use Rattle.model.specs.World.{IsWorld}
use Rattle.model.specs.declared.runner.World.TheInside.{Inside}

abbrev pub simulation_of : Inside → Simulation
simulation_of w = record {
  end = w.end;
  world = record {
    time = w.time;
    states = map (λ s. s.items) w.states.items;
    numbers = w.numbers.items;
    pending = w.pending.bag;
    log = w.log.items;
  };
}

-- the invariant of a `World`
pub record IsSimulation (s : Simulation) : Type 0 where
  pub some : 1 ≤ s.end
  pub end : s.end ≤ 2 ^ 40
  pub world : IsWorld (length s.world.states) s.world
  pub numbers : Every (λ number. number ≤ 2 ^ 63) s.world.numbers
