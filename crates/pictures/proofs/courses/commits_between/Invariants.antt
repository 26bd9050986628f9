use Rattle.std.proofs.Common.{◌≡◌, ◌≤◌, ◌+◌, ◌^◌, drop, filter, length}
use Rattle.pictures.specs.Course.{at_first, capped, committing, is_between}
use Rattle.pictures.specs.declared.turns.Row.{Row}
use Rattle.pictures.proofs.courses.commits_between.Given as goal

abbrev pub invariant-loop-row : goal.invariant-loop-row
invariant-loop-row l = record {
  all : capped (l.commits + length (filter (is_between l.from l.to) (committing l.time (drop l.row-index l.rows))))
      ≡ capped (length (filter (is_between l.from l.to) (committing (at_first (λ (r : Row). r.committed) l.rows) l.rows)));
  few : l.commits ≤ 2 ^ 56;
}
