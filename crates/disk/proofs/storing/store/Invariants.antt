use Rattle.std.proofs.Common.{◌-◌}
use Rattle.disk.proofs.storing.store.Given as goal

abbrev pub decreases-loop-from : goal.decreases-loop-from
decreases-loop-from g l = l.image.end - l.from
