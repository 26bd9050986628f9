use Rattle.std.proofs.Common.{◌≡◌, ◌++◌, drop, filter}
use Rattle.pictures.specs.Run.{is_from}
use Rattle.pictures.proofs.traced.from_time.Given as goal

abbrev pub invariant-loop-message : goal.invariant-loop-message
invariant-loop-message l = l.late.items ++ filter (is_from l.time) (drop l.message-index l.messages) ≡ filter (is_from l.time) l.messages
