use Rattle.std.proofs.Common.{◌≡◌, ◌≤◌, ◌^◌}
use Rattle.pictures.specs.Course.{most_antimessages}
use Rattle.pictures.proofs.courses.most_antimessages.Given as goal

abbrev pub invariant-loop-place : goal.invariant-loop-place
invariant-loop-place l = record {
  most : l.most ≡ most_antimessages l.rows l.window l.place;
  few : l.most ≤ 2 ^ 56;
}
