use Rattle.std.proofs.Common.{◌++◌, map}
use Rattle.std.specs.Prelude.{string_bytes}
use Rattle.circuit.specs.Wave.{states_text}
use Rattle.circuit.proofs.Texts.{put_values}
use Rattle.circuit.proofs.waves.put_states.Goals as goal

pub loop-lp-preserved : goal.loop-lp-preserved
loop-lp-preserved c =
    put_values (λ s. s.items) c.args.states.now c.loop-lp.lp c.index-states-lp.result c.loop-lp-test.true c.index-states-lp.is
    (string_bytes c.loop-lp.text) (string_bytes c.put_state.new.text) (string_bytes c.args.text.now ++ states_text 0 (map (λ s. s.items) c.args.states.now))
    (rw c.as_slice.ensures at c.in_ok-put_state.ensures) c.loop-lp.invariant
