use Rattle.process.proofs.ReportBytes.{appended_are}
use Rattle.process.proofs.reports.Reports.push_bytes.Goals as goal

pub invariant_of-self-2 : goal.invariant_of-self-2
invariant_of-self-2 c = appended_are c.self.inside.count c.self.inside.bytes.items c.extend_from_slice.new.self.items c.self.invariant c.args.count c.args.bytes.now c.requires c.in_ok-extend_from_slice.ensures.items
