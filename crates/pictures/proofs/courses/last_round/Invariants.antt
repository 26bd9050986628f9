use Rattle.std.proofs.Common.{◌≡◌, ◌≤◌, ◌^◌, drop, max}
use Rattle.pictures.specs.Course.{last_round}
use Rattle.pictures.proofs.courses.last_round.Given as goal

abbrev pub invariant-loop-row : goal.invariant-loop-row
invariant-loop-row l = record {
  all : max l.last (last_round (drop l.row-index l.rows)) ≡ last_round l.rows;
  within : l.last ≤ 2 ^ 32;
}
