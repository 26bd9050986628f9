use Rattle.std.proofs.Common.{ℕ, List, ap, arith, drop, flat_map, ◌+◌}
use Rattle.eventkey.proofs.Writers.{writes_as, writes_broken, writes_end, written_next}
use Rattle.texts.proofs.Written.{flat_map-drop, none_left}
use Rattle.pictures.specs.Drawing.{mark_numbers}
use Rattle.pictures.specs.Filled.{filled}
use Rattle.pictures.specs.declared.diagrams.Sending.{Sending}
use Rattle.pictures.proofs.drawn.write_marks.Goals as goal

pub returns-in_err-write_mark : goal.returns-in_err-write_mark
returns-in_err-write_mark g c =
    let f : Sending → List ℕ = λ s. filled c.args.text.now (drop c.args.skip (mark_numbers c.args.frame.now s)) in
    writes_broken (flat_map f (drop (c.loop-sending.sending-index + 1) c.args.sendings.now)) c.from_residual.result c.loop-sending.invariant
    (flat_map-drop f c.args.sendings.now c.loop-sending.sending-index c.sending-item.result (omega arith))
    (writes_as c.write_mark.ensures (ap f c.sending-item.is)) c.in_err-write_mark.was c.from_residual.ensures.0

pub loop-sending-preserved : goal.loop-sending-preserved
loop-sending-preserved g c =
    let f : Sending → List ℕ = λ s. filled c.args.text.now (drop c.args.skip (mark_numbers c.args.frame.now s)) in
    written_next (flat_map f (drop (c.loop-sending.sending-index + 1) c.args.sendings.now)) c.loop-sending.invariant
    (flat_map-drop f c.args.sendings.now c.loop-sending.sending-index c.sending-item.result (omega arith))
    (writes_as c.write_mark.ensures (ap f c.sending-item.is)) c.in_ok-write_mark.was

pub returns : goal.returns
returns g c =
    let f : Sending → List ℕ = λ s. filled c.args.text.now (drop c.args.skip (mark_numbers c.args.frame.now s)) in
    writes_end tt (none_left f c.args.sendings.now c.loop-sending.sending-index (omega arith)) c.loop-sending.invariant
