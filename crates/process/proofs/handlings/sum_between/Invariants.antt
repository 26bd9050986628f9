use Rattle.std.proofs.Common.{◌≡◌, ◌+◌, sum, take}
use Rattle.process.proofs.handlings.sum_between.Given as goal

abbrev pub invariant-loop-at : goal.invariant-loop-at
invariant-loop-at l = sum (take l.from l.numbers.items) + l.found ≡ sum (take l.at l.numbers.items)
