use Rattle.std.proofs.Common.{◌≡◌, ◌++◌, List}
use Rattle.std.specs.List.{filter}
use Rattle.std.specs.Prelude.{nat_le}
use Rattle.eventkey.specs.Encoding.{message_at}
use Rattle.eventkey.specs.Message.{Message}
use Rattle.process.proofs.ReportBytes.{IsGoingWith}
use Rattle.process.proofs.encoding.push_from.Given as goal

abbrev pub invariant-loop : goal.invariant-loop
invariant-loop l = IsGoingWith (λ (xs : List Message). l.out.items ≡ l.fn.out.items ++ filter (λ (x : Message). nat_le l.time x.time) xs) message_at l.count l.counter l.bytes l.rest
