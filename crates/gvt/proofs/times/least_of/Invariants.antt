use Rattle.std.proofs.Common.{◌≡◌, take}
use Rattle.gvt.specs.Times.{low_in}
use Rattle.gvt.proofs.times.least_of.Given as goal

abbrev pub invariant-loop-one : goal.invariant-loop-one
invariant-loop-one l = l.least ≡ low_in (take l.one-index l.signed)
