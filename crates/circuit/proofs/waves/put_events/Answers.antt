use Rattle.std.proofs.Common.{arith, length, map}
use Rattle.std.specs.Prelude.{string_bytes}
use Rattle.circuit.specs.Circuit.{netlist_of}
use Rattle.circuit.specs.Wave.{events_text}
use Rattle.circuit.proofs.Texts.{all_put, kept_so, put_so_far}
use Rattle.circuit.proofs.waves.put_events.Goals as goal

pub loop-event-preserved : goal.loop-event-preserved
loop-event-preserved c =
    let n = netlist_of c.args.circuit.now.gates.items c.args.circuit.now.wires.items c.args.circuit.now.digest in
    let states = map (λ s. s.items) c.loop-event.states.items in
    let kept = kept_so (λ s. s.items) n c.loop-event.states.items c.event-item.result (length c.args.circuit.now.gates.items) c.put_event.new.states.items c.in_ok-put_event.ensures.states c.loop-event.invariant.each c.loop-event.invariant.few in
    record {
      each = kept.0;
      few = kept.1;
      text = rw (c.in_ok-put_event.ensures.states, c.time-last.ensures)
          (put_so_far n states c.loop-event.last c.args.end c.args.log.now c.loop-event.event-index c.event-item.result c.loop-event-test.true c.event-item.is
          (string_bytes c.args.text.now) (string_bytes c.loop-event.text) (string_bytes c.put_time.new.text) (string_bytes c.put_event.new.text)
          (events_text n (map (λ s. s.items) c.args.states.now.items) c.args.from c.args.end c.args.log.now)
          c.loop-event.invariant.text (rw c.time.ensures at c.in_ok-put_time.ensures) c.in_ok-put_event.ensures.text);
    }

pub returns : goal.returns
returns c =
    let n = netlist_of c.args.circuit.now.gates.items c.args.circuit.now.wires.items c.args.circuit.now.digest in
    all_put c.put_time-2.result n (map (λ s. s.items) c.loop-event.states.items) c.loop-event.last c.args.end c.args.log.now c.loop-event.event-index (string_bytes c.args.text.now) (string_bytes c.loop-event.text) (string_bytes c.put_time-2.new.text)
    (events_text n (map (λ s. s.items) c.args.states.now.items) c.args.from c.args.end c.args.log.now) (omega arith) c.loop-event.invariant.text c.put_time-2.ensures
