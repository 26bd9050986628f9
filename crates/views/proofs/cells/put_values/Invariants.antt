use Rattle.std.proofs.Common.{◌≡◌, ◌++◌, drop, map}
use Rattle.std.specs.Prelude.{flat_map, string_bytes}
use Rattle.views.specs.Tables.{Field, between, field_of, value_text}
use Rattle.views.proofs.cells.put_values.Given as goal

abbrev pub invariant-loop-named : goal.invariant-loop-named
invariant-loop-named l =
    let after = λ (x : Field). between l.format ++ value_text l.format x.value in
    string_bytes l.line ++ flat_map after (map field_of (drop l.named-index l.rest)) ≡ string_bytes l.initial.line ++ flat_map after (map field_of l.rest)
