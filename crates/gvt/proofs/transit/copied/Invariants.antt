use Rattle.std.proofs.Common.{◌≡◌, take}
use Rattle.gvt.specs.Picks.{picked}
use Rattle.gvt.proofs.transit.copied.Given as goal

abbrev pub invariant-loop-pick : goal.invariant-loop-pick
invariant-loop-pick l = l.picked.items ≡ picked l.messages (take l.pick-index l.picks)
