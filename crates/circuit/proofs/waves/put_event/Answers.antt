use Rattle.std.proofs.Common.{◌<◌, ap, arith, length, ◌++◌, ◌∙◌}
use Rattle.std.specs.Prelude.{string_bytes}
use Rattle.circuit.specs.Circuit.{netlist_of}
use Rattle.circuit.proofs.Texts.{made_event, short_at, found_event}
use Rattle.circuit.proofs.waves.put_event.Goals as goal

pub handle-now-requires-clause-few : goal.handle-now-requires-clause-few
handle-now-requires-clause-few c =
    let inside : c.to-lp.result < length c.args.states.now.items = omega (arith, c.if-place-len.false, c.len.ensures) in
    rw c.index-was.ensures (short_at (λ s. s.items) c.args.states.now.items c.to-lp.result c.index-was.result.now inside c.requires.few)

pub returns-clause-text : goal.returns-clause-text
returns-clause-text c =
    let n = netlist_of c.args.circuit.now.gates.items c.args.circuit.now.wires.items c.args.circuit.now.digest in
    let inside : c.to-lp.result < length c.args.states.now.items = omega (arith, c.if-place-len.false, c.len.ensures) in
    c.in_ok-put_changes.ensures ∙ ap (λ s. string_bytes c.args.text.now ++ s)
    (found_event (λ s. s.items) n c.args.states.now.items c.args.event.now c.to-lp.result c.index-was.result.now c.to-lp.ensures inside c.index-was.ensures c.as_slice.result.now c.as_slice-2.result.now c.as_slice.ensures
    (c.as_slice-2.ensures ∙ c.handle-now.ensures.state))

pub returns-clause-states : goal.returns-clause-states
returns-clause-states c =
    let n = netlist_of c.args.circuit.now.gates.items c.args.circuit.now.wires.items c.args.circuit.now.digest in
    let inside : c.to-lp.result < length c.args.states.now.items = omega (arith, c.if-place-len.false, c.len.ensures) in
    made_event (λ s. s.items) n c.args.states.now.items c.args.event.now c.to-lp.result c.index-was.result.now c.to-lp.ensures inside c.index-was.ensures c.handle-now.result.0 c.handle-now.ensures.state
