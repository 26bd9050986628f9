use Rattle.std.proofs.Common.{◌≡◌, drop}
use Rattle.rules.specs.Distributions.{pick}
use Rattle.rules.proofs.tables.place.Given as goal

abbrev pub invariant-numbers : goal.invariant-numbers
invariant-numbers l = pick l.i (drop l.i l.numbers) l.left ≡ pick 0 l.numbers l.n
