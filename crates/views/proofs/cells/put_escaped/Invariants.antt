use Rattle.std.proofs.Common.{◌≡◌, ◌++◌}
use Rattle.std.specs.Prelude.{flat_map, string_bytes}
use Rattle.views.specs.Tables.{in_string}
use Rattle.views.proofs.cells.put_escaped.Given as goal

abbrev pub invariant-loop-letter : goal.invariant-loop-letter
invariant-loop-letter l = string_bytes l.line ++ flat_map in_string l.letter-iterator.rest.now ≡ string_bytes l.initial.line ++ flat_map in_string l.text
