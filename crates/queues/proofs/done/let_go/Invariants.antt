use Rattle.std.proofs.Common.{◌≡◌, ◌+◌, drop}
use Rattle.std.specs.VecDeque.{deque_len}
use Rattle.queues.proofs.done.let_go.Given as goal

abbrev pub invariant-loop : goal.invariant-loop
invariant-loop l = record {
  left : l.done.items ≡ drop l.counter l.fn.done.items;
  long : deque_len l.done + l.counter ≡ deque_len l.fn.done;
}
