use Rattle.std.proofs.Common.{◌≡◌, ◌∙◌, List, ap}
use Rattle.std.specs.List.{list_all}
use Rattle.std.specs.Prelude.{nat_lt}
use Rattle.eventkey.specs.Message.{Message}
use Rattle.process.proofs.ReportBytes.{sent_has}
use Rattle.process.specs.declared.Done.{Done}
use Rattle.process.proofs.reports.Report.are_sent_below.Goals as goal

pub returns : goal.returns
returns c =
    sent_has c.self.inside.bytes.now c.self.invariant (λ (xs : List Message). c.are_sent_below.result ≡ list_all (λ (x : Message). nat_lt x.to c.args.limit) xs) c.split_at.result.1.now c.split_at.ensures.back c.are_sent_below.ensures
    ∙ ap (λ (d : Done). list_all (λ (x : Message). nat_lt x.to c.args.limit) d.sent) c.self.view_is
