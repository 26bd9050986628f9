use Rattle.std.proofs.Common.{◌≡◌, ◌++◌, replicate}
use Rattle.std.specs.Prelude.{string_bytes}
use Rattle.views.proofs.cells.put_zeros.Given as goal

abbrev pub invariant-loop : goal.invariant-loop
invariant-loop l = string_bytes l.line ≡ string_bytes l.initial.line ++ replicate l.counter 48
