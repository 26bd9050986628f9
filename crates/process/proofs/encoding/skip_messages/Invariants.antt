use Rattle.eventkey.specs.Encoding.{message_at}
use Rattle.process.proofs.ReportBytes.{IsGoing}
use Rattle.process.proofs.encoding.skip_messages.Given as goal

abbrev pub invariant-loop : goal.invariant-loop
invariant-loop l = IsGoing message_at l.count l.counter l.bytes l.rest
