use Rattle.std.proofs.Common.{◌≡◌, length}
use Rattle.std.specs.Vec.Iter.{into_iter_items, into_iter_len}
use Rattle.node.proofs.Loads.{IsSeatedSoFar}
use Rattle.node.proofs.node.seat_all.Given as goal

abbrev pub invariant-loop-part : goal.invariant-loop-part
invariant-loop-part l = record {
  so_far : IsSeatedSoFar l.end l.floor (into_iter_items l.initial.part-iterator) l.yielded (into_iter_items l.part-iterator) l.processes.items l.summaries;
  left : into_iter_len l.part-iterator ≡ length (into_iter_items l.part-iterator);
}
