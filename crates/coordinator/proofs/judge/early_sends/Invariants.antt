use Rattle.std.proofs.Common.{◌≡◌, ◌++◌, drop}
use Rattle.gvt.specs.Judged.{early}
use Rattle.gvt.specs.Moves.{reported_before}
use Rattle.gvt.specs.System.{reported_sends}
use Rattle.coordinator.proofs.judge.early_sends.Given as goal

abbrev pub invariant-loop-done : goal.invariant-loop-done
invariant-loop-done l = l.sent.items ++ early l.time (reported_sends (reported_before l.time (drop l.done-index l.gathered))) ≡ early l.time (reported_sends (reported_before l.time l.gathered))
