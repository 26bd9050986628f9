use Rattle.process.proofs.ReportBytes.{pushed_are}
use Rattle.process.proofs.reports.Reports.push.Goals as goal

pub invariant_of-self : goal.invariant_of-self
invariant_of-self c = pushed_are c.self.inside.count c.self.inside.bytes.items c.append_done.new.out.items c.self.invariant c.args.done.now (c.done_ranged.ensures c.requires) c.in-Ok.ensures.ok
