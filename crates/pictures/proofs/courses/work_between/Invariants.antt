use Rattle.std.proofs.Common.{◌≡◌, ◌≤◌, ◌+◌, ◌^◌, drop, filter}
use Rattle.pictures.specs.Course.{capped, is_between, sum_between, sum_of}
use Rattle.pictures.specs.declared.turns.Row.{Row}
use Rattle.pictures.proofs.courses.work_between.Given as goal

abbrev pub invariant-loop-row : goal.invariant-loop-row
invariant-loop-row l = record {
  handled : capped (l.handled + sum_of (λ (r : Row). r.handled) (filter (is_between l.from l.to) (drop l.row-index l.rows))) ≡ sum_between (λ (r : Row). r.handled) l.from l.to l.rows;
  antimessages : capped (l.antimessages + sum_of (λ (r : Row). r.antimessages) (filter (is_between l.from l.to) (drop l.row-index l.rows))) ≡ sum_between (λ (r : Row). r.antimessages) l.from l.to l.rows;
  few : l.handled ≤ 2 ^ 56;
  fewer : l.antimessages ≤ 2 ^ 56;
}
