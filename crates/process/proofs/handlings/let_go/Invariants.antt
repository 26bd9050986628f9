use Rattle.std.proofs.Common.{◌≡◌, drop}
use Rattle.process.proofs.handlings.let_go.Given as goal

abbrev pub invariant-loop : goal.invariant-loop
invariant-loop l = l.numbers.items ≡ drop l.counter l.fn.numbers.items
