use Rattle.std.proofs.Common.{◌≡◌, ◌≤◌, ◌^◌, drop, min}
use Rattle.pictures.specs.Course.{least_round}
use Rattle.pictures.proofs.courses.least_round.Given as goal

abbrev pub invariant-loop-row : goal.invariant-loop-row
invariant-loop-row l = record {
  all : min l.least (least_round (drop l.row-index l.rows)) ≡ least_round l.rows;
  within : l.least ≤ 2 ^ 32;
}
