use Rattle.std.proofs.Common.{◌≡◌, ◌++◌, length, map}
use Rattle.std.specs.Vec.Iter.{into_iter_items, into_iter_len}
use Rattle.frames.specs.Judged.{new_judge}
use Rattle.frames.proofs.judging.ports.judged_ports.Given as goal

abbrev pub invariant-ports : goal.invariant-ports
invariant-ports g l = record {
  judged : l.judged.items ≡ map (λ p. new_judge l.model l.every p) l.yielded;
  all : l.yielded ++ into_iter_items l.port-iterator ≡ into_iter_items l.initial.port-iterator;
  left : into_iter_len l.port-iterator ≡ length (into_iter_items l.port-iterator);
}
