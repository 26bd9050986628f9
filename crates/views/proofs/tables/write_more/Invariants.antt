use Rattle.std.proofs.Common.{map}
use Rattle.views.specs.Tables.{AddsRows}
use Rattle.views.proofs.tables.write_more.Given as goal

abbrev pub invariant-loop-row : goal.invariant-loop-row
invariant-loop-row g l = AddsRows l.format (map (λ n. n.now) l.names) l.starts (g.O.Write.contents l.initial.out) (g.O.Write.contents l.out) l.is_first
