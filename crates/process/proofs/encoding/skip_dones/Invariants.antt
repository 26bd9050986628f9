use Rattle.process.proofs.ReportBytes.{IsGoing}
use Rattle.process.specs.Reports.{done_at}
use Rattle.process.proofs.encoding.skip_dones.Given as goal

abbrev pub invariant-loop : goal.invariant-loop
invariant-loop l = IsGoing done_at l.count l.counter l.bytes l.rest
