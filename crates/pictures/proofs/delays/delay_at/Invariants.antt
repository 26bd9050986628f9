use Rattle.std.proofs.Common.{◌≡◌, get_or}
use Rattle.pictures.specs.Delays.{expanded}
use Rattle.pictures.proofs.delays.delay_at.Given as goal

abbrev pub invariant-loop-delay : goal.invariant-loop-delay
invariant-loop-delay l = get_or (expanded l.delay-iterator) l.left 0 ≡ get_or (expanded l.counts.entries) l.place 0
