use Rattle.eventkey.specs.Reading.{number_at}
use Rattle.process.proofs.ReportBytes.{IsGoing}
use Rattle.process.proofs.encoding.skip_numbers.Given as goal

abbrev pub invariant-loop : goal.invariant-loop
invariant-loop l = IsGoing (number_at 8) l.count l.counter l.bytes l.rest
