use Rattle.std.proofs.Common.{None, ap₂, inl, map, refl, ◌∙◌}
use Rattle.std.specs.Prelude.{string_bytes}
use Rattle.circuit.specs.Circuit.{netlist_of}
use Rattle.circuit.specs.Wave.{first_states, wave_text}
use Rattle.circuit_program.specs.Waves.{meaning_of}
use Rattle.circuit_program.proofs.Printed.{at_its_time}
use Rattle.circuit_program.proofs.waves.whole_wave.Goals as goal

pub returns : goal.returns
returns g c =
    let circuit = c.args.of.now.model in
    let n = netlist_of circuit.gates.items circuit.wires.items circuit.digest in
    let world = c.in_ok-whole_world.field-0.world in
    let there = at_its_time (meaning_of circuit) c.args.of.now.end world c.in_ok-whole_world.ensures in
    record {
      origin = None;
      from = 0;
      world = world;
      simulated = inl (record { origin = refl; start = refl; upto = there.0 });
      within = there.1;
      is = c.in_ok-wave.ensures ∙ ap₂ (wave_text n (map string_bytes circuit.names.items) (first_states n None) 0) c.into_parts-parts.ensures.time (c.as_slice-log.ensures.value ∙ c.into_parts-parts.ensures.log);
    }
