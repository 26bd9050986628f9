use Rattle.std.proofs.Common.{◌≡◌, ◌≤◌, ◌++◌, drop, length, map}
use Rattle.std.specs.List.{AllByRecursion as Every}
use Rattle.std.specs.Prelude.{string_bytes}
use Rattle.circuit.specs.Circuit.{netlist_of}
use Rattle.circuit.specs.Wave.{events_text}
use Rattle.circuit.proofs.waves.put_events.Given as goal

abbrev pub invariant-loop-event : goal.invariant-loop-event
invariant-loop-event l =
    let n = netlist_of l.circuit.gates.items l.circuit.wires.items l.circuit.digest in
    record {
      each : length l.states.items ≡ length l.circuit.gates.items;
      few : Every (λ state. length state ≤ 16) (map (λ s. s.items) l.states.items);
      text : string_bytes l.text ++ events_text n (map (λ s. s.items) l.states.items) l.last l.end (drop l.event-index l.log)
          ≡ string_bytes l.initial.text ++ events_text n (map (λ s. s.items) l.initial.states.items) l.from l.end l.log;
    }
