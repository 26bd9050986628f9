use Rattle.std.proofs.Common.{inr}
use Rattle.std.specs.Option.{option_map}
use Rattle.recovery.specs.Front.{world_of}
use Rattle.circuit_program.proofs.Printed.{on_disk}
use Rattle.circuit_program.proofs.waves.wave_on.Goals as goal

pub returns : goal.returns
returns c =
    let circuit = c.args.of.now.model in
    let origin = option_map (λ o. o.now) c.args.origin in
    record {
      origin = origin;
      from = c.args.from;
      world = world_of c.in-Ok.front;
      simulated = inr (on_disk c.new.result.model.now circuit (option_map (λ o. o.now) c.new.result.origin) origin c.args.of.now.end c.args.from c.args.disk.reads (world_of c.in-Ok.front)
          c.new.ensures.model c.new.ensures.origin c.requires.begins c.requires.goes_on c.in-Ok.ensures.replayed c.in-Ok.ensures.genuine);
      within = c.in-Ok.ensures.within;
      is = rw c.as_slice-log.ensures at c.in_ok-wave.ensures;
    }
