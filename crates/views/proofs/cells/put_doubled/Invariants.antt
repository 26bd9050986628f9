use Rattle.std.proofs.Common.{◌≡◌, ◌++◌}
use Rattle.std.specs.Prelude.{flat_map, string_bytes}
use Rattle.views.specs.Tables.{in_field}
use Rattle.views.proofs.cells.put_doubled.Given as goal

abbrev pub invariant-loop-letter : goal.invariant-loop-letter
invariant-loop-letter l = string_bytes l.line ++ flat_map in_field l.letter-iterator.rest.now ≡ string_bytes l.initial.line ++ flat_map in_field l.text
