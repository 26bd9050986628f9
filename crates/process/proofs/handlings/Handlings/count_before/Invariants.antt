use Rattle.std.proofs.Common.{◌≡◌, ◌+◌, ◌-◌, ◌≤◌, drop, flat_map, length}
use Rattle.process.specs.Handlings.{count_before}
use Rattle.process.specs.Reports.{done_bytes}
use Rattle.process.proofs.handlings.Handlings.count_before.Given as goal

abbrev pub invariant-loop-time : goal.invariant-loop-time
invariant-loop-time l = record {
  there : l.count ≤ length l.self;
  text : l.rest ≡ flat_map done_bytes (drop l.count l.self);
  so_far : l.count + count_before l.floor (drop l.count l.self) ≡ count_before l.floor l.self;
}

abbrev pub decreases-loop-time : goal.decreases-loop-time
decreases-loop-time l = length l.self - l.count
