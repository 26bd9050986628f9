use Rattle.std.proofs.Common.{◌≡◌, ◌++◌, drop, map}
use Rattle.std.specs.Prelude.{codes, flat_map, string_bytes}
use Rattle.views.specs.Tables.{Field, field_of, member_text}
use Rattle.views.proofs.cells.put_object.Given as goal

abbrev pub invariant-loop-named : goal.invariant-loop-named
invariant-loop-named l =
    let after = λ (x : Field). codes ", " ++ member_text x in
    string_bytes l.line ++ flat_map after (map field_of (drop l.named-index l.rest)) ≡ string_bytes l.initial.line ++ flat_map after (map field_of l.rest)
