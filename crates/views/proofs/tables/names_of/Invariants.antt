use Rattle.std.proofs.Common.{◌≡◌, map, take}
use Rattle.views.specs.Tables.{Field, field_of}
use Rattle.views.proofs.tables.names_of.Given as goal

abbrev pub invariant-loop-named : goal.invariant-loop-named
invariant-loop-named l = map (λ n. n.now) l.names.items ≡ map (λ (x : Field). x.column) (map field_of (take l.named-index l.row))
