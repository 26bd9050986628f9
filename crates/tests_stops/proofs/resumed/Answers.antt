use Rattle.std.proofs.Common.{arith, refl}
use Rattle.tests_stops.proofs.Opening.{may_open}
use Rattle.tests_stops.proofs.resumed.Goals as goal

pub open-requires : goal.open-requires
open-requires c = record {
  possible = may_open _ _ c.args.way.resumed c.args.of.now.end _ c.in_ok-ports.ensures.ports refl
      (record { some = c.requires.some; few = c.requires.few; ends = record { some = omega (arith, c.requires.begun, c.requires.order); within = c.requires.short } });
}
