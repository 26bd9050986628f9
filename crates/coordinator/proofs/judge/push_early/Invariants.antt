use Rattle.std.proofs.Common.{drop, ◌++◌, ◌≡◌}
use Rattle.gvt.specs.Judged.{early}
use Rattle.coordinator.proofs.judge.push_early.Given as goal

abbrev pub invariant-loop-message : goal.invariant-loop-message
invariant-loop-message l = l.sent.items ++ early l.time (drop l.message-index l.messages) ≡ l.fn.sent.items ++ early l.time l.messages
