use Rattle.std.proofs.Common.{◌≡◌, ◌++◌, map}
use Rattle.std.specs.Prelude.{string_bytes}
use Rattle.circuit.specs.Wave.{declared_gates}
use Rattle.circuit.proofs.waves.put_declarations.Given as goal

abbrev pub invariant-loop-lp : goal.invariant-loop-lp
invariant-loop-lp l = string_bytes l.text ≡ string_bytes l.initial.text ++ declared_gates (map string_bytes l.circuit.names.items) l.lp
