use Rattle.std.proofs.Common.{◌≡◌, ◌++◌, OnOk, subst}
use Rattle.process.specs.Reports.{done_bytes}
use Rattle.process.specs.declared.Done.{Done}
use Rattle.process.proofs.ReportBytes.{same_done}
use Rattle.process.proofs.encoding.append_done.Goals as goal

pub returns-clause-ok : goal.returns-clause-ok
returns-clause-ok c =
    subst (λ (d : Done). OnOk c.append_parts.result (c.append_parts.new.out.items ≡ c.args.out.now.items ++ done_bytes d)) (same_done c.args.done.now _ _ c.as_slice-sent.ensures c.as_slice.ensures) c.append_parts.ensures.ok
