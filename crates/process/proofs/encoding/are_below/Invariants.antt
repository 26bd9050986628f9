use Rattle.std.proofs.Common.{◌≡◌, List}
use Rattle.std.specs.List.{list_all}
use Rattle.std.specs.Prelude.{nat_lt, true}
use Rattle.eventkey.specs.Encoding.{message_at}
use Rattle.eventkey.specs.Message.{Message}
use Rattle.process.proofs.ReportBytes.{IsGoingWith}
use Rattle.process.proofs.encoding.are_below.Given as goal

abbrev pub invariant-loop : goal.invariant-loop
invariant-loop l = IsGoingWith (λ (xs : List Message). list_all (λ (x : Message). nat_lt x.to l.limit) xs ≡ true) message_at l.count l.counter l.bytes l.rest
