use Rattle.std.proofs.Common.{◌≡◌, ◌++◌, length, map}
use Rattle.std.specs.Prelude.{replicate}
use Rattle.std.specs.Vec.Iter.{into_iter_items, into_iter_len}
use Rattle.frames.specs.Socket.{state_of}
use Rattle.frames.specs.declared.port.Held.TheVariants.{Fresh}
use Rattle.node_programs.proofs.greeting.ports_of.Given as goal

abbrev pub invariant-streams : goal.invariant-streams
invariant-streams g l = record {
  fresh : map (λ p. state_of p.held) l.ports.items ≡ replicate (length l.ports.items) (state_of Fresh);
  count : length l.ports.items ≡ length l.yielded;
  all : l.yielded ++ into_iter_items l.stream-iterator ≡ into_iter_items l.initial.stream-iterator;
  left : into_iter_len l.stream-iterator ≡ length (into_iter_items l.stream-iterator);
}
