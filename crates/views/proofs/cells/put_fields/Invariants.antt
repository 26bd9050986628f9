use Rattle.std.proofs.Common.{◌≡◌, ◌++◌, drop, map}
use Rattle.std.specs.Prelude.{flat_map, string_bytes}
use Rattle.views.specs.Tables.{Field, field_line, field_of}
use Rattle.views.proofs.cells.put_fields.Given as goal

abbrev pub invariant-loop-named : goal.invariant-loop-named
invariant-loop-named l =
    let line = λ (x : Field). field_line x.column x.value in
    string_bytes l.lines ++ flat_map line (map field_of (drop l.named-index l.row)) ≡ string_bytes l.initial.lines ++ flat_map line (map field_of l.row)
