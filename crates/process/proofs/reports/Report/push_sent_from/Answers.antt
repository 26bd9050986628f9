use Rattle.std.proofs.Common.{◌≡◌, ◌++◌, List, subst}
use Rattle.std.specs.List.{filter}
use Rattle.std.specs.Prelude.{OnOk, nat_le}
use Rattle.eventkey.specs.Message.{Message}
use Rattle.process.proofs.ReportBytes.{sent_holds}
use Rattle.process.specs.declared.Done.{Done}
use Rattle.process.proofs.reports.Report.push_sent_from.Goals as goal

pub returns : goal.returns
returns c =
    let kept = λ (xs : List Message). c.push_sent_from.new.out.items ≡ c.args.out.now.items ++ filter (λ (x : Message). nat_le c.args.time x.time) xs in
    subst (λ (d : Done). OnOk c.push_sent_from.result (kept d.sent)) c.self.view_is (sent_holds c.self.inside.bytes.now c.self.invariant c.push_sent_from.result kept c.split_at.result.1.now c.split_at.ensures.back c.push_sent_from.ensures)
