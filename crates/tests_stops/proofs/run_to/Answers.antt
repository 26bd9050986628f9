use Rattle.std.proofs.Common.{refl}
use Rattle.tests_stops.proofs.Opening.{may_open}
use Rattle.tests_stops.proofs.run_to.Goals as goal

pub open-requires : goal.open-requires
open-requires c = record {
  possible = may_open _ _ c.args.way.nodes c.args.end _ c.in_ok-ports.ensures.ports refl
      (record { some = c.requires.some; few = c.requires.few; ends = record { some = c.requires.begun; within = c.requires.short } });
}
