use Rattle.std.proofs.Common.{◌∙◌, ap}
use Rattle.process.specs.declared.Done.{Done}
use Rattle.process.proofs.ReportBytes.{after_is}
use Rattle.process.proofs.reports.Report.after.Goals as goal

pub returns-in-Some : goal.returns-in-Some
returns-in-Some c = after_is c.self.inside.bytes.now c.self.invariant c.split_at.result.1.now c.in-Some.rest.now c.words_in.result.items c.split_at.ensures.back c.in-Some.ensures c.words_in.ensures ∙ ap (λ (d : Done). d.after) c.self.view_is
