use Rattle.process.proofs.ReportBytes.{copied_are}
use Rattle.process.proofs.reports.Reports.push_report.Goals as goal

pub invariant_of-self-2 : goal.invariant_of-self-2
invariant_of-self-2 c = copied_are c.self.inside.count c.self.inside.bytes.items c.extend_from_slice.new.self.items c.self.invariant c.report.inside.bytes.now c.report.invariant c.in_ok-extend_from_slice.ensures.items
