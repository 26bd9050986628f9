use Rattle.std.proofs.Common.{◌≡◌, ◌++◌, drop, map}
use Rattle.std.specs.Prelude.{string_bytes}
use Rattle.circuit.specs.Wave.{states_text}
use Rattle.circuit.proofs.waves.put_states.Given as goal

abbrev pub invariant-loop-lp : goal.invariant-loop-lp
invariant-loop-lp l =
    string_bytes l.text ++ states_text l.lp (drop l.lp (map (λ s. s.items) l.states))
    ≡ string_bytes l.initial.text ++ states_text 0 (map (λ s. s.items) l.states)
