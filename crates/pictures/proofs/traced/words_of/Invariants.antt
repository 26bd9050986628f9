use Rattle.std.proofs.Common.{map, take, ◌≡◌}
use Rattle.pictures.proofs.traced.words_of.Given as goal

abbrev pub invariant-loop-next : goal.invariant-loop-next
invariant-loop-next l = map (λ w. w.items) l.words.items ≡ map (λ w. w.items) (take l.next-index l.all)
