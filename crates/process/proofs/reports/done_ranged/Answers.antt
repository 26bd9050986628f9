use Rattle.std.proofs.Common.{subst}
use Rattle.process.specs.Reports.{IsDone}
use Rattle.process.specs.View.{IsDoneInRange}
use Rattle.process.specs.declared.Done.{Done}
use Rattle.process.proofs.ReportBytes.{same_done}
use Rattle.process.proofs.reports.done_ranged.Goals as goal

pub returns : goal.returns
returns c = subst (λ (d : Done). IsDoneInRange d → IsDone d) (same_done c.args.done.now _ _ c.as_slice-sent.ensures c.as_slice.ensures) c.parts_ranged.ensures
