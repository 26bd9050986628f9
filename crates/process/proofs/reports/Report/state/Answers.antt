use Rattle.std.proofs.Common.{◌≡◌, List, subst, ℕ}
use Rattle.std.specs.Prelude.{IfOk}
use Rattle.process.specs.declared.Done.{Done}
use Rattle.process.proofs.ReportBytes.{state_is}
use Rattle.process.proofs.reports.Report.state.Goals as goal

pub returns-in-Some : goal.returns-in-Some
returns-in-Some c =
    subst (λ (d : Done). IfOk c.state_in.result (λ (state : List ℕ). state ≡ d.after)) c.self.view_is (state_is c.self.inside.bytes.now c.self.invariant c.state_in.result c.split_at.result.1.now c.in-Some.rest.now c.split_at.ensures.back c.in-Some.ensures c.state_in.ensures)
