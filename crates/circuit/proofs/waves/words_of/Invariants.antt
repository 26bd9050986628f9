use Rattle.std.proofs.Common.{map, take, ◌≡◌}
use Rattle.circuit.proofs.waves.words_of.Given as goal

abbrev pub invariant-loop-state : goal.invariant-loop-state
invariant-loop-state l = map (λ s. s.items) l.words.items ≡ take l.state-index l.states
