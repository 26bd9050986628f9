use Rattle.std.proofs.Common.{◌≡◌, drop, max}
use Rattle.pictures.specs.Course.{events_before, reached}
use Rattle.pictures.specs.declared.turns.Row.{Row}
use Rattle.pictures.proofs.courses.reached_before.Given as goal

abbrev pub invariant-loop-row : goal.invariant-loop-row
invariant-loop-row l = record {
  gvt : max l.gvt (reached (λ (r : Row). r.gvt) l.to (drop l.row-index l.rows)) ≡ reached (λ (r : Row). r.gvt) l.to l.rows;
  events : max l.events (reached (λ (r : Row). r.events) l.to (drop l.row-index l.rows)) ≡ events_before l.to l.rows;
}
