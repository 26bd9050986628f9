use Rattle.std.proofs.Common.{◌∙◌, ap}
use Rattle.process.specs.declared.Done.{Done}
use Rattle.process.proofs.ReportBytes.{sent_is}
use Rattle.process.proofs.reports.Report.sent.Goals as goal

pub returns : goal.returns
returns c = sent_is c.self.inside.bytes.now c.self.invariant c.split_at.result.1.now c.sends_in.result.items c.split_at.ensures.back c.sends_in.ensures ∙ ap (λ (d : Done). d.sent) c.self.view_is
