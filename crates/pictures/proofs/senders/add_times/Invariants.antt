use Rattle.std.proofs.Common.{◌≡◌, ◌++◌, replicate}
use Rattle.pictures.proofs.senders.add_times.Given as goal

abbrev pub invariant-loop : goal.invariant-loop
invariant-loop l = l.row.items ≡ l.initial.row.items ++ replicate l.counter l.time
